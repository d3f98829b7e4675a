-- One result for each statement of an exported function: what the crates of such functions share, and the version's.
pub mod Unique
