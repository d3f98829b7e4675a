-- The form read byte by byte: exactly the form, and where a text goes wrong.
pub mod TextLaws
pub mod Alive
pub mod Said
pub mod Reading
pub mod Exactly
pub mod Examples
pub mod LimitedLaws
