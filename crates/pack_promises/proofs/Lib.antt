-- Laws of what packing keeps, and the promises.
pub mod ContentLaws
pub mod TwiceLaws
pub mod SameLaws
pub mod PackedLaws
pub mod OnceLaws
pub mod FilledLaws
pub mod Packing
pub mod Example
