-- The lent tables of errors that are to be written, what is wrong with them, and the statement of their check;
-- beside them what private functions hand on.
pub mod Table
pub mod Statement
pub mod Stages
