-- `lookahead::route::back` meets its contract. The loop's invariant: the first k moves, those to the lowest cells, lead to no cell before x.
use Rattle.lookahead.specs.Way.{Unled}
use Rattle.lookahead.proofs.route.back.Given as goal

abbrev pub invariant-loop-k : goal.invariant-loop-k
invariant-loop-k l = Unled l.floor l.base l.mark l.cost l.x l.k
