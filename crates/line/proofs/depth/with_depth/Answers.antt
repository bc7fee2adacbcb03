-- `line::depth::with_depth` meets its contract: a refusal leaves the buffer; else the line with its depth stands in its first places.
use Rattle.std.proofs.Common.{refl, rules}
use Rattle.line.proofs.Depths.{depth-malformed, depth_no_room, depth-done}
use Rattle.line.proofs.depth.with_depth.Goals as goal

pub returns-in_default : goal.returns-in_default
returns-in_default c = rw c.numbered.ensures (depth-malformed _ _ c.in_default.ensures.malformed)

pub returns-then-not-has_room : goal.returns-then-not-has_room
returns-then-not-has_room c = rw c.numbered-then-not-has_room.ensures (depth_no_room _ _ c.in-Some.ensures.formed c.if-not-has_room.ensures)

pub returns : goal.returns
returns c = depth-done _ _ c.in-Some.ensures.formed c.if-not-has_room.ensures c.put_line.ensures refl refl (search rules)
