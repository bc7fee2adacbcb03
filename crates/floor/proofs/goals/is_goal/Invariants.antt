-- `floor::goals::is_goal` meets its contract. The invariant: the cell is none of the goals passed.
use Rattle.learning.proofs.Words.{ℕ, ◌<◌, ◌≡◌, get_or}
use Rattle.model.specs.Floor.{goals_of}
use Rattle.floor.proofs.goals.is_goal.Given as goal

abbrev pub invariant-loop-i : goal.invariant-loop-i
invariant-loop-i l = (k : ℕ) → k < l.i → l.cell ≡ get_or (goals_of l.goals) k 0 → ⊥
