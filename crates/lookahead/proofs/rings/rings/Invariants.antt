-- `lookahead::rings::rings` meets its contract. The loop's invariant: rings 0 to r are marked, none is empty, and no goal is in one of them.
use Rattle.model.specs.Floor.{goals_of}
use Rattle.lookahead.proofs.Levels.{Ringed}
use Rattle.lookahead.specs.Marks.{state}
use Rattle.lookahead.proofs.rings.rings.Given as goal

abbrev pub invariant-loop-r : goal.invariant-loop-r
invariant-loop-r l = Ringed l.floor l.s (goals_of l.goals) l.base l.r l.from (state l.mark l.cost l.list l.to)
