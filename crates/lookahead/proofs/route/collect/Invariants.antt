-- `lookahead::route::collect` meets its contract. The loop's invariant: the moves from the cell on stand at the end. The measure is the cell's cost.
use Rattle.lookahead.specs.Costs.{at}
use Rattle.lookahead.specs.Way.{Collecting}
use Rattle.lookahead.proofs.route.collect.Given as goal

abbrev pub invariant-loop-cell : goal.invariant-loop-cell
invariant-loop-cell l = Collecting l.fn.job l.fn.floor l.s l.cost l.x l.k l.cell l.way

abbrev pub decreases-loop-cell : goal.decreases-loop-cell
decreases-loop-cell l = at l.cost l.cell
