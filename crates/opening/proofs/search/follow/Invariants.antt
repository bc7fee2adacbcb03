-- `opening::search::follow` meets its contract. The invariant: the first m moves have been followed. No move leads from a blocked cell.
use Rattle.floor.specs.Moves.{cost}
use Rattle.opening.specs.Chain.{Follows}
use Rattle.opening.proofs.search.follow.Given as goal

abbrev pub invariant-loop-m : goal.invariant-loop-m
invariant-loop-m g l = Follows l.floor l.cell (cost l.k) l.v l.m l.initial.list l.last l.list l.end
