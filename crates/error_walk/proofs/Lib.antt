pub mod CountLaws
pub mod WalkLaws
pub mod InsideLaws
pub mod AllLaws
pub mod Unique
