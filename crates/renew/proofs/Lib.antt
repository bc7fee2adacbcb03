-- Laws of the program: Keeping of the last part of a stream, and Answering of the whole by it.
pub mod Keeping
pub mod Answering
