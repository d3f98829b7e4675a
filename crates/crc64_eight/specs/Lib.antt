-- Eight bytes at a step: the fold over lent tables, what each public function promises, and when lent tables are an
-- engine.
pub mod Lent
pub mod Statement
pub mod Engine
