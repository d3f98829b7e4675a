-- What the program `list` prints, after document 01, and what the crate's function promises.
pub mod Text
pub mod Output
pub mod Statement
pub mod Stages
