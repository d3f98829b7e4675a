-- The laws of the product and of joined checksums, and the proofs of the functions.
pub mod Ring
pub mod Loops
pub mod Joined
pub mod Unique
