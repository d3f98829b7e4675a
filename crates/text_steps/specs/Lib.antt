-- What a text's rows fill, and the reading of a text from a place on.
pub mod Tables
pub mod Stages
