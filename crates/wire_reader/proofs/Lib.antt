-- Laws of asking for bytes and of a held `Reader`, and one result for each statement.
pub mod NeedLaws
pub mod Unique
