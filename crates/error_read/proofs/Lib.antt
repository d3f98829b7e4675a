pub mod TableLaws
pub mod FillLaws
pub mod HeldLaws
pub mod DecodeLaws
pub mod Unique
