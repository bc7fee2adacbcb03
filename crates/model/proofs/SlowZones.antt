-- Document 02's request on slow zones: beside the same floor with its slow cells priced as ordinary free ones, distances only grow,
-- so a table that is sound there stays sound. It is the law over two grounds, applied.
use Prim.Native.Nat.{ℕ, ◌≤◌}
use mathlib.Core.Path.{refl}
use mathlib.Core.Bool.{false}
use mathlib.Core.List.{List}
use Rattle.learning.specs.Walk.{Reaches}
use Rattle.learning.specs.Trial.{Sound}
use Rattle.learning.specs.Ground.{Ground, Goal, net_of, dist_of, job_of}
use Rattle.learning.proofs.Fewer.{reaches_there, dist_there, sound_here}
use Rattle.model.specs.Floor.{Floor, clear, slowly, price}
use Rattle.model.specs.Grounds.{fare_between, fare_dearer, clear_same, clear-free, free-inside, ground_of}
use Rattle.model.proofs.Compared.{Rule, ruled_by}

-- Slow cells priced as ordinary free ones: it is kept for this comparison alone.
abbrev pub ordinary_price : Floor → ℕ → ℕ → ℕ
ordinary_price f a b = fare_between f (clear f a b) false a b

pub ordinary : (f : Floor) → Rule f (clear f) (λ a b. false)
ordinary f = record { clear_same = clear_same f; slow_same = λ a b. refl; inside = λ a b t. free-inside f a (clear-free f a b t) }

abbrev pub as_ordinary : Floor → List ℕ → Ground
as_ordinary f goals = ruled_by f goals (ordinary f)

-- each move is one there, at no greater cost
move_cheaper : (f : Floor) (a b : ℕ) → 1 ≤ price f a b → (1 ≤ ordinary_price f a b) × (ordinary_price f a b ≤ price f a b)
unfolding price
move_cheaper f a b = fare_dearer f (clear f a b) (slowly f a b) a b

module _ (f : Floor) (goals : List ℕ) where
  module _ (x : ℕ) (r : Reaches (net_of (ground_of f goals)) (Goal (ground_of f goals)) x) where
    pub reached_as_ordinary : Reaches (net_of (as_ordinary f goals)) (Goal (as_ordinary f goals)) x
    reached_as_ordinary = reaches_there (ground_of f goals) (as_ordinary f goals) (λ x g. g) (move_cheaper f) x r

    pub slow_distances_only_grow : dist_of (as_ordinary f goals) x ≤ dist_of (ground_of f goals) x
    slow_distances_only_grow = dist_there (ground_of f goals) (as_ordinary f goals) (λ x g. g) (move_cheaper f) x r

  pub ordinary_tables_stay_sound : (depth p q quota : ℕ) (table : List ℕ)
      → Sound (job_of (as_ordinary f goals) depth p q quota) table → Sound (job_of (ground_of f goals) depth p q quota) table
  ordinary_tables_stay_sound depth p q quota table = sound_here (ground_of f goals) (as_ordinary f goals) (λ x g. g) (move_cheaper f) refl q
