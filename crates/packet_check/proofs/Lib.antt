-- Laws of the searches, of the parts that a table names and of the checks, which the proofs cite.
pub mod SearchLaws
pub mod WireLaws
pub mod CheckLaws
pub mod Unique
