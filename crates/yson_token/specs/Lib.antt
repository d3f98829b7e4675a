-- The tokens of YSON's binary form, and what the public functions promise.
pub mod Token
pub mod Statement
