-- What reading a text answers before any table is looked at, and what the stages of the walk hand on.
pub mod Paper
pub mod Statement
pub mod Stages
