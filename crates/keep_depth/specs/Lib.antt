-- What the program promises: Lines of the lines of a part, Parts of one part after another.
pub mod Lines
pub mod Parts
