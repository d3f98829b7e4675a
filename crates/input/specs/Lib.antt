-- What reading whole promises.
pub mod Statement
