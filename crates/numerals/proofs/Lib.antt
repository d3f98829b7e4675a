-- The laws of spelled numbers, which the proofs of this crate and of those above cite.
pub mod Cases
pub mod SpelledLaws
pub mod Unique
