-- What writing a rowset as text answers.
pub mod Statement
