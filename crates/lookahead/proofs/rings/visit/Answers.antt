-- `lookahead::rings::visit` meets its contract. The loop's invariant: the cell is left by each of the first m moves.
use Rattle.learning.proofs.Words.{rules}
use Rattle.lookahead.proofs.Grow.{left_more}
use Rattle.lookahead.proofs.rings.visit.Goals as goal

pub loop-m-preserved : goal.loop-m-preserved
loop-m-preserved c =
    search (rules, left_more)
