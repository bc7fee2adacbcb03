-- `opening::search::spread` meets its contract. The invariant is `Held`; the places pass each cell once, which bounds the steps.
use Rattle.learning.proofs.Words.{◌-◌}
use Rattle.model.specs.Floor.{goals_of}
use Rattle.opening.specs.Chain.{Held}
use Rattle.opening.proofs.search.spread.Given as goal

abbrev pub invariant-loop : goal.invariant-loop
invariant-loop g l = Held l.floor (goals_of l.fn.goals) l.list l.last l.places (l.steps - l.counter)
