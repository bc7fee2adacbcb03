-- What the functions of notation promise: Runs of digits that are read, Printing, and what a printer Prints.
pub mod Runs
pub mod Printing
pub mod Prints
