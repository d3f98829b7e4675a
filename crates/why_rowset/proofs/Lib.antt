-- The laws that the proofs of this crate cite, and that its statement leaves nothing open.
pub mod GoesLaws
pub mod PlainLaws
pub mod ValueLaws
pub mod WalkLaws
pub mod Unique
