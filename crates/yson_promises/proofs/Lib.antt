-- The promises, from the traces of the machine up.
pub mod Fours
pub mod Stretches
pub mod Yson
pub mod Examples
