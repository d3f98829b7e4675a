-- What is guaranteed of what a person is told: which check is named, what was found, and when nothing is wrong.
pub mod Why
