-- Laws of the table file: Reading one, Writing one, and Renewing one.
pub mod Reading
pub mod Writing
pub mod Renewing
