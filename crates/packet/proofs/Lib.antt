-- Laws of the part table, the maps back from document 01's numbers, and one result for each statement.
pub mod EntryLaws
pub mod Back
pub mod Unique
