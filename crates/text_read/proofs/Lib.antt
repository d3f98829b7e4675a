-- The laws of the second walk over a text, and of what both walks come to.
pub mod DigitLaws
pub mod FillLaws
pub mod CopyLaws
pub mod ValueLaws
pub mod LineLaws
pub mod TextLaws
pub mod AnswerLaws
pub mod Unique
