-- The identity of the sparse multiple, and that a byte may leave.
pub mod Identity
pub mod Front
pub mod Leave
pub mod Run
