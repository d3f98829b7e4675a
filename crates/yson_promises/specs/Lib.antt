-- What is guaranteed of YSON, by name.
pub mod Yson
