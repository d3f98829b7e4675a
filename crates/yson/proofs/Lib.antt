-- Laws of the readings, and what the functions of this crate answer.
pub mod ReadLaws
pub mod FillLaws
pub mod AnswerLaws
pub mod Unique
