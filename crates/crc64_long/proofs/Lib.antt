-- The laws of the window, and the proofs of the functions.
pub mod Kept
pub mod Opened
pub mod Unique
pub mod Copied
