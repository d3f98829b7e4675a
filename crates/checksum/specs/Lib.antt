-- What each public function promises.
pub mod Statement
