-- Theorems of the exported functions: what their proofs share, and one result for each statement.
pub mod OutcomeLaws
pub mod Unique
