-- The line of a finding, and what the crate's function promises.
pub mod Text
pub mod Statement
pub mod Stages
