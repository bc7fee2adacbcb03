-- The run of decimal digits at the front of a list: how many they are, and the number that they make.
use Rattle.std.specs.Prelude.{ℕ, suc, ◌+◌, ◌-◌, ◌*◌, true, false, List, [], ◌∷◌, leb, drop}
use Rattle.model.specs.Basics.{choose}
use Rattle.model.specs.FloorText.{is_digit}
use Rattle.notation.specs.declared.digits.Run.{Run}

unfoldable pub digits_in : List ℕ → ℕ
digits_in [] = 0
digits_in (b ∷ bs) = elim (is_digit b) [ true ↦ suc (digits_in bs) | false ↦ 0 ]

-- a value with one digit more; one above the greatest that is asked for is the next after it
abbrev pub with_digit : (most value b : ℕ) → ℕ
with_digit most value b = choose (leb (10 * value + (b - 48)) most) (10 * value + (b - 48)) (most + 1)

-- a value with the digits at the front
unfoldable pub value_in : (most value : ℕ) → List ℕ → ℕ
value_in most value [] = value
value_in most value (b ∷ bs) = elim (is_digit b) [ true ↦ value_in most (with_digit most value b) bs | false ↦ value ]

-- the run at a place of a text
abbrev pub run_at : (most : ℕ) (text : List ℕ) (at : ℕ) → Run
run_at most text at = record { value = value_in most 0 (drop at text); after = at + digits_in (drop at text) }
