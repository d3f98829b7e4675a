-- The definitions of writing a packet: the order, what the answer means in document 01's numbers, and what each function
-- promises; beside them what the private writers hand on.
pub mod Writing
pub mod Paper
pub mod Statement
pub mod Stages
