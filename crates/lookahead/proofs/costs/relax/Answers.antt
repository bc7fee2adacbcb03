-- `lookahead::costs::relax` meets its contract. The loop's invariant: the costs are still those of walks, none has risen, and the list says
-- at which cost each cell's moves were followed.
-- The measure is their sum.
use Rattle.learning.proofs.Words.{rules}
use Rattle.model.proofs.Moves.{free_few}
use Rattle.lookahead.proofs.Lowering.{falling_more, relaxed}
use Rattle.lookahead.proofs.costs.relax.Goals as goal

pub highest-high-requires-clause-costs : goal.highest-high-requires-clause-costs
highest-high-requires-clause-costs c =
    let p = c.requires.costs in (p.costs, λ x h. free_few _ x p.sized (p.free x h))

pub loop-preserved : goal.loop-preserved
loop-preserved c =
    search (rules, falling_more)

pub returns : goal.returns
returns c =
    search (rules, relaxed)
