-- What each answer says in the numbers of document 01.
pub mod Outcomes
pub mod Says
