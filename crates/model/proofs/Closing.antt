-- Document 02 on several benches: "its figures are sound for that set only". Where some of the benches close, the cheapest distance to the nearest of the others only
-- grows, so a table that was sound stays so; where one opens it need not (the pin `nearer_bench_opens`). Assumes nothing.
use Prim.Native.Nat.{ℕ, ◌≤◌}
use mathlib.Core.Path.{◌≡◌, refl}
use mathlib.Core.Bool.{true}
use mathlib.Core.List.{List}
use native.Mathlib.Omega.{arith}
use Rattle.learning.specs.Walk.{Reaches}
use Rattle.learning.specs.Trial.{Sound}
use Rattle.learning.specs.Ground.{Goal, net_of, dist_of, job_of}
use Rattle.learning.proofs.Fewer.{dist_there, sound_here}
use Rattle.model.specs.Basics.{member}
use Rattle.model.specs.Floor.{Floor}
use Rattle.model.specs.Grounds.{ground_of}
use Rattle.model.proofs.Benches.{goal_means, goal_is}

-- the goals that are left, and all that there were
module _ (f : Floor) (left all : List ℕ) (among : (x : ℕ) → member x left ≡ true → member x all ≡ true) where
  goal_was : (x : ℕ) → Goal (ground_of f left) x → Goal (ground_of f all) x
  goal_was x g = goal_is f all x ((ground_of f left).goals-inside x g) (among x (goal_means f left x g))

  pub closing_only_adds : (x : ℕ) → Reaches (net_of (ground_of f left)) (Goal (ground_of f left)) x → dist_of (ground_of f all) x ≤ dist_of (ground_of f left) x
  closing_only_adds x r = dist_there (ground_of f left) (ground_of f all) goal_was (λ a b h. (h, omega arith)) x r

  pub closing_keeps_tables_sound : (depth p q quota : ℕ) (table : List ℕ) → Sound (job_of (ground_of f all) depth p q quota) table → Sound (job_of (ground_of f left) depth p q quota) table
  closing_keeps_tables_sound depth p q quota table = sound_here (ground_of f left) (ground_of f all) goal_was (λ a b h. (h, omega arith)) refl q
