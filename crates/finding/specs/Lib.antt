-- What a person is told, and what each case of the code's enum tells.
pub mod Saying
pub mod Meaning
pub mod Words
