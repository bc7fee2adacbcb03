-- What the functions of lines promise: Reading, Depths and Printing.
pub mod Reading
pub mod Depths
pub mod Printing
