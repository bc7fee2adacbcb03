-- `floor::goals::opening` meets its contract. The invariant: the figure is that of the goals passed.
use Rattle.learning.proofs.Words.{ℕ, ◌≡◌, List, take}
use Rattle.model.specs.Floor.{opening, goals_of}
use Rattle.floor.specs.Moves.{flat}
use Rattle.floor.proofs.goals.opening.Given as goal

abbrev pub invariant-loop-i : goal.invariant-loop-i
invariant-loop-i l = (bytes : List ℕ) → l.least ≡ opening (flat l.width l.height bytes) l.q (take l.i (goals_of l.goals)) l.cell
