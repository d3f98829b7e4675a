-- One result for each statement of the exported functions.
pub mod Unique
