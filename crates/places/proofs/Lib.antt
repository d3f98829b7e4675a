-- Places are unique, and machines find them.
pub mod PlaceLaws
pub mod Ways
pub mod MachineLaws
