-- The statement of `unlink_all`, and what the code of packing keeps in the table while it runs.
pub mod Statement
pub mod Stages
