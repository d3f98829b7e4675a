-- Laws of tokens, which the proofs of this crate and of those above cite.
pub mod TokenLaws
pub mod ScalarLaws
pub mod LocalLaws
pub mod Unique
