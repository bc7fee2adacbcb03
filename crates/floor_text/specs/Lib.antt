-- What reading a floor text promises, and the header that writing one puts.
pub mod Reads
pub mod Heads
