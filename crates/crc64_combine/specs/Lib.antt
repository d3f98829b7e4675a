-- The checksum of two strings joined, from theirs: what it is, what the public function promises, and the private
-- stages.
pub mod Combined
pub mod Statement
pub mod Stages
