-- A number in decimal, by its last digit: one digit alone, or that after those before it.
use Prim.Native.Nat.{ℕ, suc, ◌+◌, ◌/◌, ◌%◌, ◌≤◌, ◌<◌}
use mathlib.Core.Path.{◌≡◌, ap, ◌∙◌}
use mathlib.Core.List.{[], ◌∷◌, ◌++◌}
use native.Mathlib.Omega.{arith}
use borrow.Author.Tests.{le-leb, lt-leb}
use Rattle.model.specs.Line.{decimal_in, decimal}

pub one_digit : (most n : ℕ) → n ≤ 9 → decimal_in (suc most) n ≡ (48 + n) ∷ []
unfolding decimal_in
one_digit most n h = rw (le-leb n 9 h, decimal_in)

pub last_digit : (most n : ℕ) → 9 < n → decimal_in (suc most) n ≡ decimal_in most (n / 10) ++ (48 + n % 10) ∷ []
unfolding decimal_in
last_digit most n h = rw (lt-leb n 9 h, decimal_in)

pub two_digits : (n : ℕ) → 9 < n → n ≤ 99 → decimal n ≡ (48 + n / 10) ∷ (48 + n % 10) ∷ []
two_digits n h k = last_digit 19 n h ∙ ap (λ ds. ds ++ (48 + n % 10) ∷ []) (one_digit 18 (n / 10) (omega arith))
