-- What reading a text into lent tables answers and leaves, and what the stages of its second walk hand on.
pub mod Statement
pub mod Stages
