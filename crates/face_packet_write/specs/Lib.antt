-- What the exported function promises.
pub mod Statement
