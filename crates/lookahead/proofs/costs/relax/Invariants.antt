-- `lookahead::costs::relax` meets its contract. The loop's invariant: the costs are still those of walks, none has risen, and the list says
-- at which cost each cell's moves were followed.
-- The measure is their sum.
use Rattle.lookahead.proofs.Lowering.{Falling}
use Rattle.lookahead.specs.Costs.{total}
use Rattle.lookahead.proofs.costs.relax.Given as goal

abbrev pub invariant-loop : goal.invariant-loop
invariant-loop l = Falling l.floor l.base l.mark l.n l.high l.initial.cost l.cost l.list

abbrev pub decreases-loop : goal.decreases-loop
decreases-loop l = total l.cost
