-- Trials: what trial and run promise, and what the functions inside promise each other. Stands: a trial between two decisions. Numbers: records as numbers, four for each.
pub mod Trials
pub mod Stands
pub mod Numbers
