-- The laws of the text's writer, and one result for each statement.
pub mod AnswerLaws
pub mod PutLaws
pub mod Unique
