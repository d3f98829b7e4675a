-- What `decode_error` answers and promises, and what the stages of its second walk promise.
pub mod Paper
pub mod Statement
pub mod Stages
