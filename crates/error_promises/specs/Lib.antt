-- What is guaranteed of error messages, by name.
pub mod Form
pub mod Errors
pub mod Round
pub mod Dictionaries
pub mod Unknown
