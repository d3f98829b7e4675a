-- Laws of the answer, and one result for the statement.
pub mod PackLaws
pub mod Unique
