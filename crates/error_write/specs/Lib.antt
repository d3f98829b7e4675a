-- What is written of two tables of errors, the order of the checks, and the statements of the functions.
pub mod Written
pub mod Writing
pub mod Paper
pub mod Statement
pub mod Stages
