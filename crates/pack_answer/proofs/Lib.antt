-- Laws of the answer, and one result for each statement.
pub mod AnswerLaws
pub mod Unique
pub mod CutLaws
