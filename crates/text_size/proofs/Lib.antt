-- The laws of the text's size, and one result for each statement.
pub mod SizeLaws
pub mod AnswerLaws
pub mod Unique
