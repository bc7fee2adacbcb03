-- Laws of notation: Runs of digits that are read, Decimals of numbers, and what a printer Prints.
pub mod Runs
pub mod Decimals
pub mod Prints
