-- Distances: what the list of true distances holds. Search: what the search that finds them keeps. Chain: how one list holds that.
-- Promise: what the public calls promise.
pub mod Distances
pub mod Search
pub mod Chain
pub mod Promise
