-- `checks::benches` meets its contract. The invariant: the goals passed are free.
use Rattle.learning.proofs.Words.{ℕ, ◌<◌, ◌≡◌, true, get_or}
use Rattle.model.specs.Floor.{free, goals_of}
use Rattle.checks.proofs.benches.Given as goal

abbrev pub invariant-loop-i : goal.invariant-loop-i
invariant-loop-i l = (k : ℕ) → k < l.i → free l.floor (get_or (goals_of l.goals) k 0) ≡ true
