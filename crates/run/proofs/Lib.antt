-- Course: a run between two trials. Legs: what a path's legs cost. Driving: a trial's decisions. Counting: records as numbers.
pub mod Course
pub mod Legs
pub mod Driving
pub mod Counting
