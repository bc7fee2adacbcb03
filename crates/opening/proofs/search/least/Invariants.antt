-- `opening::search::least` meets its contract. The invariant: the least offer of the first k costs.
use Rattle.opening.specs.Chain.{Least}
use Rattle.opening.proofs.search.least.Given as goal

abbrev pub invariant-loop-k : goal.invariant-loop-k
invariant-loop-k g l = Least l.list l.places l.k l.best
