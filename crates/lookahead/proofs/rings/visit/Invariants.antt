-- `lookahead::rings::visit` meets its contract. The loop's invariant: the cell is left by each of the first m moves.
use Rattle.lookahead.specs.Marks.{state, Left}
use Rattle.lookahead.proofs.rings.visit.Given as goal

abbrev pub invariant-loop-m : goal.invariant-loop-m
invariant-loop-m l = Left l.floor l.base l.k l.c l.m l.w (state l.initial.mark l.initial.cost l.initial.list l.n) (state l.mark l.cost l.list l.end)
