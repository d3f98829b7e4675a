-- The laws of registers side by side and of what is copied, and the proofs of the functions.
pub mod Queue
pub mod Held
pub mod Braid
pub mod Copied
pub mod Unique
