-- `opening::search::unpack` meets its contract. The invariant: the entries passed are distances, the others as they were.
use Rattle.learning.proofs.Words.{arith}
use Rattle.opening.proofs.Fill.{changed_all}
use Rattle.opening.specs.Chain.{dist_at}
use Rattle.opening.proofs.search.unpack.Goals as goal

pub returns : goal.returns
unfolding dist_at
returns c = changed_all c.loop-d.invariant (omega arith)
