-- Rounds made one after another, each from what the one before it left, whatever a round is and leaves.
use Rattle.std.specs.Prelude.{ℕ, zero, suc, ◌+◌, min}

module _ {X : Type 0} (next : X → X) where
  -- What n rounds leave.
  abbrev pub after_rounds : ℕ → X → X
  after_rounds zero x = x
  after_rounds (suc n) x = after_rounds n (next x)

  -- How many of the first n rounds learn something.
  abbrev pub learners : (learned : X → ℕ) → ℕ → X → ℕ
  learners learned zero x = 0
  learners learned (suc n) x = min 1 (learned x) + learners learned n (next x)
