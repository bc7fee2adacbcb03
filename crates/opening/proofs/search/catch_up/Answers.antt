-- `opening::search::catch_up` meets its contract. The invariant: the places before k are caught up, the others as they were.
use Rattle.learning.proofs.Words.{arith}
use Rattle.opening.proofs.Fill.{changed_all}
use Rattle.opening.proofs.search.catch_up.Goals as goal

pub returns : goal.returns
returns c = changed_all c.loop-place.invariant (omega arith)
