-- Document 01's answers for packing, and the statements of the functions.
pub mod Paper
pub mod Statement
