-- What an answer says fixes the answer.
pub mod One
