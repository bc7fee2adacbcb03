-- Laws of one move: Stepping as it is worked out, Steps as code above knows it.
pub mod Stepping
pub mod Steps
-- The opening figure, goal by goal.
pub mod Nearest
