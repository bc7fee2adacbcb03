-- `checks::goals_hold` meets its contract. The invariant: the goals passed rise.
use Rattle.learning.proofs.Words.{ℕ, suc, ◌<◌, get_or}
use Rattle.model.specs.Floor.{goals_of}
use Rattle.checks.proofs.goals_hold.Given as goal

abbrev pub invariant-loop-i : goal.invariant-loop-i
invariant-loop-i l = (k : ℕ) → suc k < l.i → get_or (goals_of l.goals) k 0 < get_or (goals_of l.goals) (suc k) 0
