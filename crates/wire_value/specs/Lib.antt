-- The order in which a value is read, the Rust's value, document 01's answers, and the statements of this crate's
-- functions.
pub mod ValueOrder
pub mod ValueOf
pub mod Paper
pub mod Statement
pub mod Stages
