-- The laws that the proofs of this crate cite, and that its statement leaves nothing open.
pub mod LineLaws
pub mod Unique
