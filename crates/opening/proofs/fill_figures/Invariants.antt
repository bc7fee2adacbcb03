-- `opening::fill_figures` meets its contract. The invariant: the places passed hold their opening figures, whatever the floor's bytes.
use Rattle.learning.proofs.Words.{ℕ, length, List, ◌≡◌}
use Rattle.floor.specs.Moves.{flat}
use Rattle.model.specs.Floor.{opening, goals_of}
use Rattle.opening.proofs.Fill.{Filled}
use Rattle.opening.proofs.fill_figures.Given as goal

abbrev pub invariant-loop-x : goal.invariant-loop-x
invariant-loop-x l = (length l.table ≡ length l.initial.table) × ((bytes : List ℕ) → Filled (opening (flat l.width l.height bytes) l.q (goals_of l.goals)) l.x l.table)
