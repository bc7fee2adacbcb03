-- `line::depth::put_line` meets its contract: all but the LF and then the depth where two numbers are given, else the line.
use Rattle.std.proofs.Common.{arith, rules}
use Rattle.notation.proofs.Prints.{room_left}
use Rattle.line.proofs.Depths.{TwoLong, two_long, two_printed, others-long, others-printed}
use Rattle.line.proofs.depth.put_line.Goals as goal
use Rattle.line.proofs.depth.put_line.Goals.{Then-given-eq2}

-- two numbers are given
two : (c : Then-given-eq2) → TwoLong c.args.line.now
two c = two_long _ _ c.requires.given.count c.if-given-eq2.true

pub slice_bounds-bytes-count : goal.slice_bounds-bytes-count
slice_bounds-bytes-count c = (two (goal.at.slice_bounds-bytes-count c).Then-given-eq2).some

pub bytes-requires : goal.bytes-requires
bytes-requires c = omega (arith, two (goal.at.bytes-requires c).Then-given-eq2, c.requires.room)

pub bytes-requires-then-given-eq2 : goal.bytes-requires-then-given-eq2
bytes-requires-then-given-eq2 c =
    let t = two (goal.at.bytes-requires-then-given-eq2 c).Then-given-eq2 in
    room_left c.bytes.ensures _ 3 c.requires.room (omega (arith, t))

pub bytes-requires-else-given-eq2 : goal.bytes-requires-else-given-eq2
bytes-requires-else-given-eq2 c = omega (arith, others-long _ _ c.requires.given.count c.if-given-eq2.false, c.requires.room)

pub returns-then-given-eq2 : goal.returns-then-given-eq2
returns-then-given-eq2 c = search (two_printed, rules)

pub returns-else-given-eq2 : goal.returns-else-given-eq2
returns-else-given-eq2 c = search (others-printed, rules)
