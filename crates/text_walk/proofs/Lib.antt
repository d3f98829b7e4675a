-- The laws of the walk over a text, and one result for each statement.
pub mod CheckLaws
pub mod DigitLaws
pub mod Unique
