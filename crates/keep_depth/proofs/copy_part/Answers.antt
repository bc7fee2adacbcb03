-- `keep_depth::copy_part` meets its contract: the part stands behind what is held, its lines are copied, and what is left of the last is held or too long.
use Rattle.std.proofs.Common.{rules}
use Rattle.keep_depth.proofs.Parting.{part_printed, stops_here, stops_long, goes_on}
use Rattle.keep_depth.proofs.copy_part.Goals as goal

pub returns-in-Ok : goal.returns-in-Ok
returns-in-Ok c = goes_on c.requires (part_printed c.bytes.ensures (search rules)) c.copy_lines-reach.ensures c.in-Ok.is c.if-n-done-lt-LONGEST_LINE.true _ c.to_front.ensures

pub returns-in_default : goal.returns-in_default
returns-in_default c = stops_long c.requires (part_printed c.bytes.ensures (search rules)) c.copy_lines-reach.ensures c.in-Ok.is c.if-n-done-lt-LONGEST_LINE.false _

pub returns-in_default-2 : goal.returns-in_default-2
returns-in_default-2 c = stops_here c.requires (part_printed c.bytes.ensures (search rules)) c.copy_lines-reach.ensures c.in_default.is _
