-- The order in which a rowset is written, document 01's answers, and the statement of the size.
pub mod Writing
pub mod Paper
pub mod Statement
pub mod Stages
