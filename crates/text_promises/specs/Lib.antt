-- What is guaranteed of a rowset's text.
pub mod Texts
