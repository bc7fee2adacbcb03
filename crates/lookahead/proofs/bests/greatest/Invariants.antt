-- `lookahead::bests::greatest` meets its contract. The loop's invariant: top is the greatest of the entries 1 to k - 1.
use Rattle.lookahead.specs.Bests.{Topped}
use Rattle.lookahead.proofs.bests.greatest.Given as goal

abbrev pub invariant-loop-k : goal.invariant-loop-k
invariant-loop-k l = Topped l.best l.k l.top
