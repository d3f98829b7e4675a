-- What is told of a packet, and what the private stages hand on.
pub mod Checks
pub mod Stages
