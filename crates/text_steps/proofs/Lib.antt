-- How the reading of a text goes on at a byte, the sizes of rows, and what was read so far.
pub mod SizeLaws
pub mod StepLaws
pub mod AheadLaws
pub mod ReadLaws
pub mod LimitNumbers
