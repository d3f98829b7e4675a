-- The laws of packets that the proofs of the reading stages cite.
pub mod ChecksumLaws
pub mod OrderLaws
pub mod SizeLaws
pub mod PartLaws
pub mod EntryLaws
pub mod Lines
pub mod BodyLaws
pub mod Unique
