-- The laws of a stretch of one to eight bytes and of the loop, and the proofs of the functions.
pub mod Parts
pub mod Stretch
pub mod Turn
pub mod Walk
pub mod Unique
