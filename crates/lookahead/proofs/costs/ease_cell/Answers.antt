-- `lookahead::costs::ease_cell` meets its contract. The loop's invariant: the first m moves have lowered what they can.
use Rattle.learning.proofs.Words.{rules}
use Rattle.lookahead.proofs.Lowering.{eased_more}
use Rattle.lookahead.proofs.costs.ease_cell.Goals as goal

pub loop-m-preserved : goal.loop-m-preserved
loop-m-preserved c =
    search (rules, eased_more)
