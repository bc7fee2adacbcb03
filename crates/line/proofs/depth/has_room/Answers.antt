-- `line::depth::has_room` meets its contract: two numbers need two bytes more than the line has, any others none.
use Rattle.std.proofs.Common.{rules}
use Rattle.line.proofs.Depths.{no_room, two_room, others-room}
use Rattle.line.proofs.depth.has_room.Goals as goal

pub returns-then-given-ne2 : goal.returns-then-given-ne2
returns-then-given-ne2 c = search (others-room, rules)

pub returns-else-given-ne2 : goal.returns-else-given-ne2
returns-else-given-ne2 c = search (two_room, rules)

pub returns-else-line-room : goal.returns-else-line-room
returns-else-line-room c = search (no_room, rules)
