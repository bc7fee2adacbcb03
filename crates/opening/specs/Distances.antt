-- The list of true distances, whatever way it was found: its promise leaves one value for each cell.
use Rattle.std.specs.Prelude.{ℕ, ◌*◌, ◌≤◌, ◌<◌, ◌≡◌, Bool, ◌&&◌, List, ltb, length, get_or}
use Rattle.learning.specs.Ground.{pick, reach_of, dist_of}
use Rattle.answers.specs.declared.Job.{Job}
use Rattle.answers.specs.Outcomes.{Verdict}
use Rattle.model.specs.Basics.{then, unless, naming}
use Rattle.model.specs.Floor.{Floor, size}
use Rattle.model.specs.Grounds.{ground_of}
use Rattle.model.specs.Checks.{finest, ceiling, floor_of, goals, Benched}

-- what stands where no walk to a goal exists: the ceiling, which is more than `farthest`, the greatest true distance
abbrev pub far : ℕ
far = ceiling

pub record Distances (f : Floor) (goals dist : List ℕ) : Type 0 where
  -- a place for each cell
  pub long : length dist ≡ size f
  -- a cell that can reach a goal has its true distance, each other `far`
  pub each : (x : ℕ) → x < size f → get_or dist x 0 ≡ pick (reach_of (ground_of f goals) x) (dist_of (ground_of f goals) x) far

-- whether a figure is above the true figure of a cell at distance d, which can reach a goal
abbrev pub above : (q d figure : ℕ) → Bool
above q d figure = ltb d far && ltb (q * d) figure

-- 6 and 7 by the true distances of a list
unfoldable pub judged : (q start : ℕ) → (dist table : List ℕ) → Verdict
judged q start dist table = then (unless (ltb (get_or dist start 0) far) 6) (naming (length table) (λ x. above q (get_or dist x 0) (get_or table x 0)) 7)

-- what 1, 3, 4 and 27 give of a job, its floor and its table
pub record Openable (j : Job) (f : Floor) (start : ℕ) (table : List ℕ) : Type 0 where
  pub its : f ≡ floor_of j f.bytes
  pub long : length table ≡ size f
  pub fine : j.q ≤ finest
  pub begin : start < size f
  pub benches : Benched (size f) (goals j)
