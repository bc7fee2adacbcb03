-- `lookahead::costs::ease_cell` meets its contract. The loop's invariant: the first m moves have lowered what they can.
use Rattle.lookahead.specs.Costs.{Lowered, Easing}
use Rattle.lookahead.proofs.costs.ease_cell.Given as goal

abbrev pub invariant-loop-m : goal.invariant-loop-m
invariant-loop-m l = Lowered l.floor l.base l.mark (Easing l.floor l.base l.mark l.c l.m l.w) l.initial.cost l.changed l.cost l.any
