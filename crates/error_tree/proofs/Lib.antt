pub mod MessageLaws
pub mod TreeLaws
pub mod Examples
pub mod Unique
