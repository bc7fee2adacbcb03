-- `keep_depth::lines::copy_lines` meets its contract. The loop's invariant: `Going`, whatever follows, what is told of the whole is what is written and then what is told
-- of the bytes that are left.
use Rattle.std.proofs.Common.{◌≡◌, ◌-◌, length}
use Rattle.keep_depth.proofs.Copying.{Going}
use Rattle.keep_depth.proofs.lines.copy_lines.Given as goal

abbrev pub invariant-loop-given : goal.invariant-loop-given
invariant-loop-given l = Going l.bytes l.first l.initial.copies.out.now l.copies l.line l.done × (l.copies.out.ghost_name ≡ l.initial.copies.out.ghost_name)

abbrev pub decreases-loop-given : goal.decreases-loop-given
decreases-loop-given l = length l.bytes - l.done
