-- `floor::kinds_on` meets its contract. The invariant: what the bytes passed say.
use Rattle.learning.proofs.Words.{rules}
use Rattle.floor.proofs.Steps.{counted_none, counted_more, counted_all}
use Rattle.floor.proofs.kinds_on.Goals as goal

pub loop-b-init : goal.loop-b-init
loop-b-init c = counted_none _

pub loop-b-preserved : goal.loop-b-preserved
loop-b-preserved c =
    rw c.kinds_after-n.ensures (search (rules, counted_more))

pub returns : goal.returns
returns c =
    search (rules, counted_all)
