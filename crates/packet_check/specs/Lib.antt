-- The definitions of the writer's checks: the order, what the answers mean in document 01's numbers, and what each
-- function promises; beside them what private functions hand on.
pub mod Checks
pub mod Paper
pub mod Statement
pub mod Stages
