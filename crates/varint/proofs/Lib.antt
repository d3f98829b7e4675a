pub mod VarintLaws
pub mod ReadLaws
pub mod WriteLaws
pub mod RoundLaws
pub mod Unique
