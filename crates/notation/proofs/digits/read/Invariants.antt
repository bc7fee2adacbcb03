-- `notation::digits::read` meets its contract. The loop's invariant: `Reading`, what is left to read makes the same run.
use Rattle.notation.proofs.Runs.{Reading}
use Rattle.notation.proofs.digits.read.Given as goal

abbrev pub invariant-loop-i : goal.invariant-loop-i
invariant-loop-i l = Reading l.most l.text l.at l.value l.i
