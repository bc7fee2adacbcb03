-- `line::depth::first_line` meets its contract. The loop's invariant: `Counting`, so many numbers are read.
use Rattle.std.proofs.Common.{◌-◌, length}
use Rattle.line.proofs.Depths.{Counting}
use Rattle.line.proofs.depth.first_line.Given as goal

abbrev pub invariant-loop-at : goal.invariant-loop-at
invariant-loop-at l = Counting l.bytes l.from l.given l.at

abbrev pub decreases-loop-at : goal.decreases-loop-at
decreases-loop-at l = length l.bytes - l.at
