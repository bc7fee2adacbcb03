-- What follows from the promises of the public calls. One: everything that a call answers and leaves has one possible value.
-- The mission. Mission: demand 3, with Deciding below it. Refused: demand 1's last sentence. ReadBack: demand 2's.
-- RecordRefused: what a refused record of a table file means, as document 02 splits it. Renewing: what reading a renewed file gives.
-- Converting: what a line with its depth prints. Settling: how many trips learn, and what the settled one costs.
pub mod One
pub mod Deciding
pub mod Mission
pub mod Settling
pub mod Refused
pub mod ReadBack
pub mod RecordRefused
pub mod Renewing
pub mod Converting
