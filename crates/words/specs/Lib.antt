-- The shared vocabulary of the definitions: words and bytes, stretches and buffers, decision lists, numbered answers.
pub mod Word
pub mod Buffer
pub mod Decide
pub mod Answer
pub mod Statement
pub mod Stages
pub mod Text
pub mod Note
pub mod Paper
