-- The statements of this crate's functions.
pub mod Statement
