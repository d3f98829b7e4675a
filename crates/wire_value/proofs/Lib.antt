-- Laws of a value's types, header, checks and payload, and one result for each statement.
pub mod HeaderLaws
pub mod OrderLaws
pub mod ScalarLaws
pub mod ValueLaws
pub mod Unique
