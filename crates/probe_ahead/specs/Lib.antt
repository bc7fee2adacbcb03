-- The definitions that the contract of `probe` cites.
pub mod Plain
