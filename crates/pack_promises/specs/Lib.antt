-- What is guaranteed of packing, by name.
pub mod Packing
