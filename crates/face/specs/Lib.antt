-- What the interface's version is.
pub mod Version
