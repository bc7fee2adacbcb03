-- What is held of a stream, and what is answered of it.
pub mod Kept
pub mod Answers
