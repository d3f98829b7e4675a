-- One result for the statement of the crate's function.
pub mod Unique
