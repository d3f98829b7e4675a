-- What each function on a text's bytes promises.
pub mod Statement
