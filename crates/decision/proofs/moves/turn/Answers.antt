-- `decision::moves::turn` meets its contract. The invariant: the last k moves stand turned round at the front, and the rest of the part is as lent.
use Rattle.decision.proofs.Laying.{turn_more}
use Rattle.decision.proofs.moves.turn.Goals as goal

pub loop-k-preserved : goal.loop-k-preserved
loop-k-preserved c =
    search turn_more
