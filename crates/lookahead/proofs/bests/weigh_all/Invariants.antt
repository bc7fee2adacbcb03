-- `lookahead::bests::weigh_all` meets its contract. The loop's invariant: the keys of the first i cells are entered.
use Rattle.lookahead.specs.Bests.{Bests}
use Rattle.lookahead.proofs.bests.weigh_all.Given as goal

abbrev pub invariant-loop-i : goal.invariant-loop-i
invariant-loop-i l = Bests l.base l.mark l.cost l.table l.p l.list l.i l.best
