-- The statement of the first walk over a TError, and what its stages promise.
pub mod Statement
pub mod Stages
