-- `lookahead::costs::highest` meets its contract. The loop's invariant: no cost of the first i cells is above the greatest so far.
use Rattle.lookahead.specs.Costs.{Highest}
use Rattle.lookahead.proofs.costs.highest.Given as goal

abbrev pub invariant-loop-i : goal.invariant-loop-i
invariant-loop-i l = Highest l.cost l.list l.i l.high
