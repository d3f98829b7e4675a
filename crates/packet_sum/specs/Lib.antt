-- What the crate's function promises.
pub mod Statement
