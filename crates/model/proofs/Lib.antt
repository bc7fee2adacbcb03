-- Laws of the definitions, by what they are of, and the theorems that rest on them.
-- Columns and rows; the eight moves and the price of a move; parts of a list as code takes them, and a copy to its front.
pub mod Cells
pub mod Moves
pub mod Parts
pub mod Copying
-- What each check says and gives; tests over lists; the goals; the path that a decision is handed; an accepted job; 6 and 7 by walks.
pub mod Accepted
pub mod Lists
pub mod Benches
pub mod Held
pub mod Soundness
pub mod Openings
pub mod Refusals
-- Document 02 on slow zones: beside ordinary cells distances only grow. And so the opening figures are sound.
pub mod Compared
pub mod SlowZones
pub mod OpeningSound
-- The lookahead: empty rings; what the definitions mean, in the documents' words.
pub mod Rings
pub mod Meaning
-- A decision test by test; in a trial it is one of `learning` and is never refused; trials and runs; the figures.
pub mod Cases
pub mod Steps
pub mod Judged
pub mod Rides
pub mod Lent
pub mod Tables
-- A decision's moves drive the cart, and so do a trial's; the way kept is a walk.
pub mod Driven
pub mod KeptWay
-- Document 02 on smoother routes: the choice of routes moves no figure, target or cost; where no cell is slow they are document 01's.
pub mod Chosen
pub mod PlainFloors
-- Demand 3 of the mission, sentence by sentence.
pub mod Demand
-- Document 02 on settling: how many training trips to plan.
pub mod Settling
-- Document 02 on corners: what a move needs free; learned tables stay sound.
pub mod Corners
-- Document 02 on several benches: where one closes, learned tables stay sound.
pub mod Closing
-- What all writers answer and leave. The table file: its checks and its records; what a refused record means; a file as it is laid down, and without what stands ahead of it;
-- the round trip of demand 2.
pub mod Writings
pub mod Files
pub mod Records
pub mod FirstFault
pub mod Laid
pub mod Behind
pub mod Renewed
pub mod RoundTrip
-- Numbers in decimal. Floor text: its rows, and how long it is; its lines, read and written; the round trip.
pub mod Digits
pub mod FloorTexts
pub mod FloorLines
pub mod FloorRoundTrip
-- The program `aisle`: which of its input's bytes decide, and what its trial lines tell.
pub mod Cut
pub mod Printed
-- Document 02 on the default depth: the form of a line; a line with its depth prints what it printed before; lists of lines, one for one.
pub mod LineForm
pub mod Converted
pub mod CopiedLines
