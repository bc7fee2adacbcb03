-- The lent lists from call to call: new ones of zeros, what a lookahead leaves, and what `renew` makes of it.
-- Assumes nothing.
use mathlib.Core.Path.{◌≡◌, refl, ◌∙◌}
use mathlib.Core.List.{List}
use Prim.Native.Nat.{ℕ, zero, suc}
use native.Mathlib.Omega.{arith}
use lib.ListN.{get_or, replicate, length-replicate}
use Rattle.answers.specs.declared.Job.{Job}
use Rattle.lookahead.specs.Contract.{Marks, Fresh, Used, Window}

zeros : (n i : ℕ) → ◌≡◌ {A = ℕ} (get_or (replicate n 0) i 0) 0
zeros zero i = refl
zeros (suc n) zero = refl
zeros (suc n) (suc i) = zeros n i

-- scratch of zeros; m and n are variables so that they are not written out
zeros-used : (m n : ℕ) → m ≡ 4096 → n ≡ 8192 → Used 1 (replicate m 0) (replicate m 0) (replicate n 0)
zeros-used m n e f = record {
  marks = record { size = length-replicate {A = ℕ} m 0 ∙ e; room = omega arith; below = λ x. omega (arith, zeros m x) };
  costs = length-replicate {A = ℕ} m 0 ∙ e;
  cells = length-replicate {A = ℕ} n 0 ∙ f;
}

pub used-zeros : Used 1 (replicate 4096 0) (replicate 4096 0) (replicate 8192 0)
used-zeros = zeros-used 4096 8192 refl refl

-- what a lookahead leaves
pub window-used : {j : Job} {bytes : List ℕ} {s base : ℕ} {mark cost list : List ℕ} {n last : ℕ}
    → Window j bytes s base mark cost list n last → Used base mark cost list
window-used W = record { marks = W.view.spent; costs = W.view.size; cells = W.room }

-- with the marks renewed they can be lent again
pub renewed : {base next : ℕ} {mark mark' cost list : List ℕ} → Used base mark cost list → Marks next mark' → Fresh next mark' cost list
renewed U M = record { marks = M; costs = U.costs; cells = U.cells }
