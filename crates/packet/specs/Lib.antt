-- What a packet is: the layout that reading looks at, the bytes that writing makes, the lent part table, which types
-- are retired, what the enums mean in document 01's numbers, and what each function promises.
pub mod Layout
pub mod Entries
pub mod Wire
pub mod Mode
pub mod Paper
pub mod Statement
