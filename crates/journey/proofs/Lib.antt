-- Laws of telling: Telling of one telling after another, Course of a trial that is told as it is made.
pub mod Telling
pub mod Course
