-- The map to what a person is told loses nothing.
pub mod Unique
