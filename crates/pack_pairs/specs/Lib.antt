-- What packing is, by the list of the distinct pairs; and the same by first uses, which nobody has to believe.
pub mod Pairs
pub mod Packing
pub mod Stages
