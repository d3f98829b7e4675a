-- Laws of an output that is filled piece by piece, and of the pieces, which the proofs cite.
pub mod PieceLaws
pub mod FillingLaws
pub mod PartingLaws
pub mod BodyLaws
pub mod PacketLaws
pub mod Unique
