-- `table_file::reader::places_named` meets its contract. The invariant: the goal places passed are this job's.
use Rattle.learning.proofs.Words.{ℕ, ◌+◌, ◌*◌, ◌<◌, ◌≡◌}
use Rattle.model.specs.Floor.{goals_of}
use Rattle.model.specs.TableFile.{half_at, goal_place}
use Rattle.table_file.proofs.reader.places_named.Given as goal

abbrev pub invariant-loop-i : goal.invariant-loop-i
invariant-loop-i l = (k : ℕ) → k < l.i → half_at l.t (4 + 2 * k) ≡ goal_place (goals_of l.goals) k
