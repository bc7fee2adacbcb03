-- Laws of the program: Copying of the lines of a part, and Parting of one part after another.
pub mod Copying
pub mod Parting
