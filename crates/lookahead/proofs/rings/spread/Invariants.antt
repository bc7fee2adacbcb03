-- `lookahead::rings::spread` meets its contract. The loop's invariant: the cells at the places from `from` to i are left.
use Rattle.lookahead.specs.Marks.{state, Swept}
use Rattle.lookahead.proofs.rings.spread.Given as goal

abbrev pub invariant-loop-i : goal.invariant-loop-i
invariant-loop-i l = Swept l.floor l.base l.k l.from l.i (state l.initial.mark l.initial.cost l.initial.list l.to) (state l.mark l.cost l.list l.end)
