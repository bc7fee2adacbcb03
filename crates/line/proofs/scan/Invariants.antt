-- `line::scan` meets its contract. The loop's invariant: the numbers so far, with those of the bytes left, are the line's, and they are seven at most.
use Rattle.std.proofs.Common.{◌-◌, length}
use Rattle.line.proofs.Laws.{Goes}
use Rattle.line.proofs.scan.Given as goal

abbrev pub invariant-loop-line : goal.invariant-loop-line
invariant-loop-line l = Goes l.input l.line

abbrev pub decreases-loop-line : goal.decreases-loop-line
decreases-loop-line l = length l.input - l.line.end
