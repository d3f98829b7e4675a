-- One result for each statement, and the proofs of the functions.
pub mod Unique
pub mod WordBytes
