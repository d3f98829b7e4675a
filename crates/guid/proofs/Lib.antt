-- The laws of GUIDs, which the proofs of this crate and of those above cite.
pub mod WireLaws
pub mod Agree
pub mod Unique
