-- Laws of outputs that are filled, of the bytes that are written and of the answer, and one result for each statement.
pub mod FillingLaws
pub mod LengthLaws
pub mod BytesLaws
pub mod EncodeLaws
pub mod Unique
