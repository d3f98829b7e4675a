-- What each exported function promises.
pub mod Statement
