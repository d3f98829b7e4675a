-- How long a name is, and that the crate's statement leaves nothing open.
pub mod NameLaws
pub mod Unique
