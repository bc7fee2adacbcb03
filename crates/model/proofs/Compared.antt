-- A floor's ground under another rule: which cells a move needs free, and whether it is slow. For comparisons with the floor's own alone.
use Prim.Native.Nat.{ℕ, ◌<◌}
use mathlib.Core.Path.{◌≡◌}
use mathlib.Core.Bool.{Bool}
use mathlib.Core.List.{List}
use lib.Dec.{T}
use Rattle.learning.specs.Ground.{Ground}
use Rattle.model.specs.Floor.{Floor, size}
use Rattle.model.specs.Grounds.{fare_between, fare-low, fare-high, fare_same, fare-clear, ground_of}

-- a rule asks the same of either end, and of cells of the floor alone
pub record Rule (f : Floor) (clear slow : ℕ → ℕ → Bool) : Type 0 where
  pub clear_same : (a b : ℕ) → clear a b ≡ clear b a
  pub slow_same : (a b : ℕ) → slow a b ≡ slow b a
  pub inside : (a b : ℕ) → T (clear a b) → a < size f

abbrev pub ruled_by : (f : Floor) (goals : List ℕ) {clear slow : ℕ → ℕ → Bool} → Rule f clear slow → Ground
ruled_by f goals {clear} {slow} R = record {
  cells = (ground_of f goals).cells;
  price = λ a b. fare_between f (clear a b) (slow a b) a b;
  goal = (ground_of f goals).goal;
  least = (ground_of f goals).least;
  dearest = (ground_of f goals).dearest;
  positive = (ground_of f goals).positive;
  low = λ a b. fare-low f (clear a b) (slow a b) a b;
  high = λ a b. fare-high f (clear a b) (slow a b) a b;
  same = λ a b. fare_same f (clear a b) (clear b a) (slow a b) (slow b a) a b (R.clear_same a b) (R.slow_same a b);
  inside = λ a b h. R.inside a b (fare-clear f (clear a b) (slow a b) a b h);
  goals-inside = (ground_of f goals).goals-inside;
}
