-- Numbers as text, and what each function promises.
pub mod Statement
