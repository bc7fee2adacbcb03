-- `opening::search::unpack` meets its contract. The invariant: the entries passed are distances, the others as they were.
use Rattle.learning.proofs.Words.{◌/◌}
use Rattle.opening.proofs.Fill.{Changed}
use Rattle.opening.specs.Chain.{links, plain}
use Rattle.opening.proofs.search.unpack.Given as goal

abbrev pub invariant-loop-d : goal.invariant-loop-d
invariant-loop-d l = Changed (λ w. plain (w / links)) l.initial.list l.d-index l.list
