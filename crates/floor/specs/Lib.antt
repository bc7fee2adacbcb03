-- The definitions that the contracts of `floor` cite.
pub mod Moves
pub mod Let
