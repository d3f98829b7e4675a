-- A TError on the wire: the fields of a message, the tree of errors and attributes that they hold, the tables that are
-- filled from it, the order in which it is checked, its refusals, and the statement of the function that reads a
-- field; beside them what a private function hands on.
pub mod Message
pub mod Tree
pub mod Reading
pub mod Paper
pub mod Statement
pub mod Stages
