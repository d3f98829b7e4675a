-- One result for each statement.
pub mod Unique
