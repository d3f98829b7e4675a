-- Laws of a search along the links, of the table that carries them, and of the walks that link, copy and move.
pub mod LinkLaws
pub mod TableLaws
pub mod WalkLaws
pub mod TurnLaws
pub mod MoveLaws
pub mod CopyLaws
pub mod SpareLaws
pub mod Unique
