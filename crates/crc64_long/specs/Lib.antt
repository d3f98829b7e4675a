-- The checksum of long strings: what its public function promises, and the sizes that it works with.
pub mod Stages
pub mod Statement
