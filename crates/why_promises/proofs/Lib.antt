-- The proofs of the promises.
pub mod Why
pub mod Lines
pub mod Plain
pub mod Reader
