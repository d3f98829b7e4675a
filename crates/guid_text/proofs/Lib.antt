-- The laws of a GUID's text, which the proofs of this crate and of those above cite.
pub mod TextLaws
pub mod ValueLaws
pub mod FieldLaws
pub mod Walk
pub mod WalkLaws
pub mod Exactly
pub mod ReasonLaws
pub mod RoundTrip
pub mod Plain
pub mod Unique
pub mod PlusLaws
pub mod Examples
