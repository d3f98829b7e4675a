-- The laws of stretches that come one after the other, and the proofs of the functions.
pub mod Stretches
pub mod Unique
