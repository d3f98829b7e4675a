-- Document 01's answers, the statement of the writer, and what its private stages hand on.
pub mod Paper
pub mod Statement
pub mod Stages
