-- Digits of one case, and one result for each statement.
pub mod DigitLaws
pub mod Unique
