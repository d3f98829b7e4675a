-- A GUID's text, where a text goes wrong and why, and what the functions promise.
pub mod Fields
pub mod Split
pub mod Text
pub mod Digits
pub mod Form
pub mod Reason
pub mod Normal
pub mod Paper
pub mod Statement
pub mod WithPlus
pub mod Stages
