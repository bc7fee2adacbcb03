-- `keep_depth::lines::copy_lines` meets its contract. The loop's invariant: `Going`, whatever follows, what is told of the whole is what is written and then what is told
-- of the bytes that are left.
use Rattle.std.proofs.Common.{◌∙◌, rules}
use Rattle.std.proofs.lemmas.List.{take_rest}
use Rattle.keep_depth.proofs.Copying.{going_ends, going_stops, going_more, room_more, gives}
use Rattle.keep_depth.proofs.lines.copy_lines.Goals as goal

pub put_line-requires-clause-given : goal.put_line-requires-clause-given
put_line-requires-clause-given c = gives c.in-Some.ensures.formed

pub put_line-requires-clause-room : goal.put_line-requires-clause-room
put_line-requires-clause-room c = room_more c.requires c.loop-given.invariant.0 c.in-Some.ensures.formed

pub loop-given-preserved : goal.loop-given-preserved
loop-given-preserved c = (going_more c.requires c.loop-given.invariant.0 c.in-Some.ensures.formed c.put_line.ensures, c.put_line.ensures.lent ∙ c.loop-given.invariant.1)

pub returns-then-malformed : goal.returns-then-malformed
returns-then-malformed c =
    going_stops c.requires c.loop-given.invariant.0 c.in_default.ensures.malformed (rw take_rest at c.contains-malformed.ensures.cases) c.if-malformed.true (search rules)

pub returns-else-malformed : goal.returns-else-malformed
returns-else-malformed c =
    going_ends c.requires c.loop-given.invariant.0 (rw take_rest at c.contains-malformed.ensures.cases) c.if-malformed.false (search rules)
