-- What the functions of calls promise: Printing, of what is printed; Reading, of the reader.
pub mod Printing
pub mod Reading
