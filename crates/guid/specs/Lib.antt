-- What a GUID is, as bytes, words and halves, and what the functions promise.
pub mod Guid
pub mod Statement
