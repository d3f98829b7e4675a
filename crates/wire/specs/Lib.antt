-- What a rowset is: kinds of values, layout, the content of rows and its bytes, document 01's numbers for refusals, and
-- the statements of this crate's functions.
pub mod Layout
pub mod Kind
pub mod Content
pub mod Paper
pub mod Need
pub mod Statement
