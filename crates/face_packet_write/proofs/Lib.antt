-- One result for the statement of the exported function.
pub mod Unique
