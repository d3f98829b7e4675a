-- Numbers in groups of seven bits, lowest first: document 02's varints (A4, A10). What stands at an offset, what is
-- written, and the statements of the public functions.
pub mod Varint
pub mod Statement
pub mod Round
