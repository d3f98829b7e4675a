-- A protobuf field at an offset: its number, wire type and extent; and the statement of the function that reads one.
pub mod Field
pub mod Statement
pub mod Stages
