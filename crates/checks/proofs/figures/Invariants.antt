-- `checks::figures` meets its contract. The invariant: no cell that was passed has a figure above the ceiling.
use Rattle.learning.proofs.Words.{ltb, get_or}
use Rattle.model.specs.Checks.{ceiling}
use Rattle.model.proofs.Accepted.{NoneBelow}
use Rattle.checks.proofs.figures.Given as goal

abbrev pub invariant-loop-x : goal.invariant-loop-x
invariant-loop-x l = NoneBelow (λ y. ltb ceiling (get_or l.table y 0)) l.x
