-- The way back from document 01's terms to the answer, and one result for the statement of the crate's function.
pub mod Back
pub mod Unique
