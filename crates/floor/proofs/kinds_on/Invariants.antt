-- `floor::kinds_on` meets its contract. The invariant: what the bytes passed say.
use Rattle.floor.specs.Moves.{Counted}
use Rattle.floor.proofs.kinds_on.Given as goal

abbrev pub invariant-loop-b : goal.invariant-loop-b
invariant-loop-b l = Counted l.floor l.b-index l.n
