-- What the program `why` prints, after document 02, A9, and what the crate's function promises.
pub mod Output
pub mod Statement
