-- What is told of a trial, and where.
pub mod Telling
