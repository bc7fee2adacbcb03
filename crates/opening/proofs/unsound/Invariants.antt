-- `opening::unsound` meets its contract. The invariant: no cell that was passed is above its true figure.
use Rattle.learning.proofs.Words.{get_or}
use Rattle.model.proofs.Accepted.{NoneBelow}
use Rattle.opening.specs.Distances.{above}
use Rattle.opening.proofs.unsound.Given as goal

abbrev pub invariant-loop-x : goal.invariant-loop-x
invariant-loop-x l = NoneBelow (λ y. above l.q (get_or l.dist y 0) (get_or l.table y 0)) l.x
