-- Rounds one after another, each of which learns from what is left to learn: no more of them learn than was left at first, so of one more than that one learns
-- nothing; and where a round leaves what it began with, every later one does.
use Prim.Native.Nat.{ℕ, zero, suc, ◌+◌, ◌≤◌, ◌<◌}
use mathlib.Core.Path.{◌≡◌, refl, ap, ◌∙◌}
use mathlib.Core.Logic.{◌⊎◌, inl, inr}
use native.Mathlib.Nat.{eq-zero-or-pos}
use native.Mathlib.Omega.{arith}
use Rattle.learning.specs.Rounds.{after_rounds, learners}

module _ {X : Type 0} (next : X → X) where
  -- a round at the end, in place of one at the front
  pub rounds_last : (n : ℕ) (x : X) → after_rounds next (suc n) x ≡ next (after_rounds next n x)
  rounds_last zero x = refl
  rounds_last (suc n) x = rounds_last n (next x)

  still : {x : X} → next x ≡ x → (n : ℕ) → after_rounds next n x ≡ x
  still e zero = refl
  still {x} e (suc n) = ap (after_rounds next n) e ∙ still e n

  pub rounds_still : (i k : ℕ) (x : X) → i ≤ k → next (after_rounds next i x) ≡ after_rounds next i x → after_rounds next k x ≡ after_rounds next i x
  rounds_still zero k x h e = still e k
  rounds_still (suc i) zero x h e = absurd (omega arith)
  rounds_still (suc i) (suc k) x h e = rounds_still i k (next x) (omega arith) e

-- what a round learns it takes from what is left to learn, where it may begin; and there the next may begin
module _ {X : Type 0} (next : X → X) (learned left : X → ℕ) (Ready : X → Type 0) (on : (x : X) → Ready x → Ready (next x))
    (falls : (x : X) → Ready x → left (next x) + learned x ≡ left x)
  where
    pub rounds-ready : (n : ℕ) (x : X) → Ready x → Ready (after_rounds next n x)
    rounds-ready zero x r = r
    rounds-ready (suc n) x r = rounds-ready n (next x) (on x r)

    pub learners_few : (n : ℕ) (x : X) → Ready x → learners next learned n x + left (after_rounds next n x) ≤ left x
    learners_few zero x r = omega arith
    learners_few (suc n) x r = omega (arith, falls x r, learners_few n (next x) (on x r))

    pub one_learns_nothing : (n : ℕ) (x : X) → Ready x → left x < n → (i : ℕ) × (i < n) × (learned (after_rounds next i x) ≡ 0)
    one_learns_nothing zero x r h = absurd (omega arith)
    one_learns_nothing (suc n) x r h = by (eq-zero-or-pos (learned x)) (λ l. one_learns_nothing n (next x) (on x r) l)
      where
        by : (learned x ≡ 0) ⊎ (0 < learned x) → (left (next x) < n → (i : ℕ) × (i < n) × (learned (after_rounds next i (next x)) ≡ 0))
            → (i : ℕ) × (i < suc n) × (learned (after_rounds next i x) ≡ 0)
        by (inl e) more = (0, omega arith, e)
        by (inr l) more = let (i, k, e) = more (omega (arith, falls x r)) in (suc i, omega arith, e)
