-- Laws of the tables' checks and of the walks, one result for each statement, and examples.
pub mod TableLaws
pub mod LinesLaws
pub mod WalkLaws
pub mod Unique
pub mod Examples
