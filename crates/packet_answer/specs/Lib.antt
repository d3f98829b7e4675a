-- What the reader's answer means in document 01's numbers, and what the crate's functions promise.
pub mod Paper
pub mod Statement
