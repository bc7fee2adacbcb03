-- How many cells have no mark: one at least where a mark is missing, and one less after a store.
-- Assumes nothing.
use mathlib.Core.Path.{◌≡◌, refl}
use mathlib.Core.List.{List, [], ◌∷◌}
use Prim.Native.Nat.{ℕ, zero, suc, ◌+◌, ◌≤◌, ◌<◌}
use native.Mathlib.Omega.{arith}
use lib.ListN.{length, get_or, set}
use borrow.Author.Tests.{lt-ltb, le-ltb}
use Rattle.lookahead.specs.Marks.{blanks}

pub blanks-pos : (base : ℕ) (l : List ℕ) (i : ℕ) → i < length l → get_or l i 0 < base → 1 ≤ blanks base l
unfolding blanks
blanks-pos base [] i p e = absurd (omega arith)
blanks-pos base (x ∷ xs) zero p e = rw (lt-ltb x base e) (omega arith)
blanks-pos base (x ∷ xs) (suc i) p e = omega (arith, blanks-pos base xs i (omega arith) e)

pub blanks-set : (base : ℕ) (l : List ℕ) (i v : ℕ) → i < length l → get_or l i 0 < base → base ≤ v → blanks base (set l i v) + 1 ≡ blanks base l
unfolding blanks
blanks-set base [] i v p e q = absurd (omega arith)
blanks-set base (x ∷ xs) zero v p e q = rw (lt-ltb x base e, le-ltb v base q) (omega arith)
blanks-set base (x ∷ xs) (suc i) v p e q = omega (arith, blanks-set base xs i v (omega arith) e q)

pub blanks_all : (base : ℕ) (l : List ℕ) → ((x : ℕ) → get_or l x 0 < base) → blanks base l ≡ length l
unfolding blanks
blanks_all base [] z = refl
blanks_all base (x ∷ xs) z = rw (lt-ltb x base (z 0)) (omega (arith, blanks_all base xs (λ i. z (suc i))))
