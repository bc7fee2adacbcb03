-- What the functions of numbers promise: Reading and Printing.
pub mod Reading
pub mod Printing
