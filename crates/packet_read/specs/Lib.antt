-- The definitions of reading: the order, and what each function promises; beside them what the private stages hand on.
pub mod Reading
pub mod Statement
pub mod Stages
