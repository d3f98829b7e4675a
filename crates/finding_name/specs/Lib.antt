-- What writing a field's name promises.
pub mod Statement
