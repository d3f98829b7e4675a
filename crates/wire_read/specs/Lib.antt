-- The order in which a rowset is read, the plain form, what the private stages hand on, and the statements of the
-- public functions.
pub mod Reading
pub mod Plain
pub mod Paper
pub mod Statement
pub mod Stages
