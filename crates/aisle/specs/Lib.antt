-- What the functions of `aisle` promise.
pub mod Answers
