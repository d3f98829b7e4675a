-- How long the text of a rowset is: what is promised, and what the stages hand on.
pub mod Statement
pub mod Stages
