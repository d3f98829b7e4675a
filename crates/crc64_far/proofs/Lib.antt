-- One result for the statement, and the proofs of the functions.
pub mod Unique
