-- What holds of an entry after a store: all case work on stores is here.
-- Assumes nothing.
use mathlib.Core.Path.{◌≡◌, refl, ap}
use mathlib.Core.List.{List, [], ◌∷◌}
use Prim.Native.Nat.{ℕ, zero, suc, ◌<◌}
use native.Mathlib.Decide.{ℕ_discrete}
use lib.ListN.{length, get_or, set}
use lib.Seq.{get_or-set_same, get_or-set_other}

pub by_store : (P : ℕ → Type 0) (l : List ℕ) (i v j : ℕ) → i < length l
    → (j ≡ i → P v) → ((j ≡ i → ⊥) → P (get_or l j 0)) → P (get_or (set l i v) j 0)
by_store P l i v j p same other = go (ℕ_discrete j i)
  where
    go : Dec (j ≡ i) → P (get_or (set l i v) j 0)
    go (yes e) = rw (e, get_or-set_same l i v 0 p) (same e)
    go (no n) = rw (get_or-set_other l i j v 0 n) (other n)

-- what stands there already changes nothing
pub set_self : (l : List ℕ) (i : ℕ) → set l i (get_or l i 0) ≡ l
set_self [] i = refl
set_self (x ∷ l) zero = refl
set_self (x ∷ l) (suc i) = ap (λ k. x ∷ k) (set_self l i)
