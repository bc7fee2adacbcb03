-- What a check promises that answers more than a verdict.
pub mod Sizes
