-- The laws of the vocabulary, which the proofs of this crate and of those above cite.
pub mod WordLaws
pub mod BufferLaws
pub mod DecideLaws
pub mod Unique
pub mod AnswerLaws
pub mod AcceptLaws
pub mod PaperLaws
pub mod TextLaws
pub mod LentLaws
pub mod FillingLaws
