-- What is told of a rowset: its reader's order, then the plain form; and what the private stages hand on.
pub mod Plain
pub mod Checks
pub mod Stages
