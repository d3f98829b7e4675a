-- Laws of the plain walks, and one result for the statement.
pub mod PlainLaws
pub mod Unique
