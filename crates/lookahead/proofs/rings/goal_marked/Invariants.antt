-- `lookahead::rings::goal_marked` meets its contract. The invariant: no goal passed is marked.
use Rattle.learning.proofs.Words.{ℕ, ◌<◌, ◌≡◌, false, leb, get_or}
use Rattle.model.specs.Floor.{goals_of}
use Rattle.lookahead.proofs.rings.goal_marked.Given as goal

abbrev pub invariant-loop-i : goal.invariant-loop-i
invariant-loop-i l = (k : ℕ) → k < l.i → leb l.base (get_or l.mark (get_or (goals_of l.goals) k 0) 0) ≡ false
