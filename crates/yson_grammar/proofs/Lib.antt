-- Laws of the machine, and its equality with the grammar.
pub mod RunLaws
pub mod Complete
pub mod Sound
pub mod OneListing
pub mod Trace
pub mod Finish
pub mod Place
pub mod Examples
