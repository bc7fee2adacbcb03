-- `lookahead::costs::pass` meets its contract. The loop's invariant: the moves of the first i cells are followed where they need to be.
use Rattle.learning.proofs.Words.{rules}
use Rattle.lookahead.proofs.Lowering.{passed_more}
use Rattle.lookahead.proofs.costs.pass.Goals as goal

pub loop-i-preserved : goal.loop-i-preserved
loop-i-preserved c =
    search (rules, passed_more)
