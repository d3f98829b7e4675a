-- The checksum with nothing laid out: what each public function promises.
pub mod Statement
