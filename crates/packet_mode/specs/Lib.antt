-- A mode by its number, and what the crate's function promises.
pub mod Statement
