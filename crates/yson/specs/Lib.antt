-- What reading YSON answers, and what the functions promise.
pub mod Reading
pub mod Paper
pub mod Statement
pub mod Stages
