-- Documents 01 and 02, a file a section: Basics (shared by the others), Floor (floor, moves, distance), Grounds (a floor is a ground), Checks (the settings, and the
-- checks that several calls make), Lookahead, Decision, Opening, Ride (trial and run), Settling (trials made one after another), Writing (what all writers share), TableFile, Renewal (a table file without what stands ahead), FloorText, Line (the program `aisle`), KeepDepth (stored lines with their depth, the program `keep_depth`), FloorWritten, and Compute
-- (what is unfolded where a case is computed).
pub mod Basics
pub mod Floor
pub mod Grounds
pub mod Checks
pub mod Lookahead
pub mod Decision
pub mod Opening
pub mod Ride
pub mod Settling
pub mod Writing
pub mod TableFile
pub mod Renewal
pub mod FloorText
pub mod Line
pub mod KeepDepth
pub mod FloorWritten
pub mod Compute
