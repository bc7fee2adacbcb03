-- Laws that the proofs of the functions cite. Noting: the path's places under its cells' numbers. Laying: moves in a part of a lent list.
pub mod Noting
pub mod Judging
pub mod Laying
pub mod Acting
