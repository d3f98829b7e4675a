pub mod TableLaws
pub mod SoundLaws
pub mod Unique
