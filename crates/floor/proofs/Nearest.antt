-- The opening figure goal by goal: that of the first goals is the least of that of those before the last of them and its own.
-- Assumes nothing.
use Prim.Native.Nat.{ℕ, zero, suc, ◌+◌, ◌≤◌, ◌<◌, min}
use mathlib.Core.Path.{◌≡◌, refl, ap, ◌∙◌}
use mathlib.Core.List.{List, [], ◌∷◌}
use native.Mathlib.Numerals.{add-one}
use native.Mathlib.Omega.{arith}
use lib.ListN.{length, get_or, take}
use lib.Seq.{take_all}
use Rattle.model.specs.Floor.{Floor, octile, opening}

min_assoc : (a b c : ℕ) → min a (min b c) ≡ min (min a b) c
min_assoc a b c = omega arith

module _ (f : Floor) (q x : ℕ) where
  pub nearest_first : (gs : List ℕ) → 1 ≤ length gs → opening f q (take 1 gs) x ≡ octile f q (get_or gs 0 0) x
  unfolding opening
  nearest_first [] h = absurd (omega arith)
  nearest_first (g ∷ gs) h = refl

  one_more : (gs : List ℕ) (i : ℕ) → suc i < length gs → opening f q (take (suc (suc i)) gs) x ≡ min (opening f q (take (suc i) gs) x) (octile f q (get_or gs (suc i) 0) x)
  unfolding opening
  one_more [] i l = absurd (omega arith)
  one_more (g ∷ []) i l = absurd (omega arith)
  one_more (g ∷ h ∷ gs) zero l = refl
  one_more (g ∷ h ∷ gs) (suc i) l = ap (min (octile f q g x)) (one_more (h ∷ gs) i (omega arith)) ∙ min_assoc (octile f q g x) _ _

  pub nearest_more : (gs : List ℕ) (i : ℕ) → 1 ≤ i → i < length gs → opening f q (take (i + 1) gs) x ≡ min (opening f q (take i gs) x) (octile f q (get_or gs i 0) x)
  nearest_more gs zero some h = absurd (omega arith)
  nearest_more gs (suc i) some h = rw (add-one (suc i)) (one_more gs i h)

  pub nearest_all : (gs : List ℕ) (i : ℕ) → length gs ≤ i → opening f q (take i gs) x ≡ opening f q gs x
  nearest_all gs i h = ap (λ (l : List ℕ). opening f q l x) (take_all i gs h)
