-- The laws of the checksum, over its definitions, and the proofs of the functions.
pub mod Xor
pub mod Register
pub mod Digits
pub mod Folding
pub mod Burst
pub mod Swap
pub mod Entries
pub mod Loop
pub mod Unique
