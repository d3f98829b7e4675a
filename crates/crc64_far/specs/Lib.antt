-- 32 bytes at a step with nothing laid out: what the public function promises.
pub mod Statement
