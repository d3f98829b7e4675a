-- The rule of the tables, the laws of the fold over them, and the proofs of the functions.
pub mod Rule
pub mod Span
pub mod Words
pub mod Turn
pub mod Lending
pub mod Arm
pub mod EightBytes
pub mod Unique
pub mod Examples
pub mod FrontTable
