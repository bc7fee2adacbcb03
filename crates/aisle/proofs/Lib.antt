-- Laws of what `aisle` answers, by what its line and its text say.
pub mod Answers
