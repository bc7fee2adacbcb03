-- `opening::search::begin` meets its contract. The invariant is `Lining`: the first i goals have been entered.
use Rattle.model.specs.Floor.{goals_of}
use Rattle.opening.proofs.Chain.{Lining}
use Rattle.opening.proofs.search.begin.Given as goal

abbrev pub invariant-loop-i : goal.invariant-loop-i
invariant-loop-i l = Lining l.initial.list (goals_of l.goals) l.list l.last l.i
