-- Where a text goes wrong, and machines that read byte by byte.
pub mod Place
pub mod Machine
