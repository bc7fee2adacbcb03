-- `lookahead::costs::pass` meets its contract. The loop's invariant: the moves of the first i cells are followed where they need to be.
use Rattle.lookahead.specs.Costs.{Passed}
use Rattle.lookahead.proofs.costs.pass.Given as goal

abbrev pub invariant-loop-i : goal.invariant-loop-i
invariant-loop-i l = Passed l.floor l.base l.mark l.n l.i l.initial.cost l.cost l.list l.any
