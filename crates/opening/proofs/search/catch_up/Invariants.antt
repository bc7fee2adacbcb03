-- `opening::search::catch_up` meets its contract. The invariant: the places before k are caught up, the others as they were.
use Rattle.opening.proofs.Fill.{Changed}
use Rattle.opening.specs.Chain.{caught}
use Rattle.opening.proofs.search.catch_up.Given as goal

abbrev pub invariant-loop-place : goal.invariant-loop-place
invariant-loop-place l = Changed (caught l.next) l.initial.places l.place-index l.places
