-- Laws of reading.
pub mod Alike
pub mod Examples
pub mod ReadingLaws
pub mod WalkLaws
pub mod FillLaws
pub mod DecodeLaws
pub mod AlikeLaws
pub mod RowLaws
pub mod Unique
pub mod PlainLaws
