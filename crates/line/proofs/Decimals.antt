-- Moves as digits, how long a refusal's line is, and from notation the laws of what is printed. Assumes nothing.
use Prim.Native.Nat.{ℕ, ◌+◌, ◌≤◌, ◌<◌}
use mathlib.Core.Path.{◌≡◌, sym, ap, ◌∙◌}
use mathlib.Core.List.{List, [], ◌∷◌, ◌++◌}
use native.Mathlib.Omega.{arith}
use native.Mathlib.Numerals.{add-one}
use Rattle.std.proofs.lemmas.List.{map-append}
use lib.ListN.{length, get_or, take, length-append, length-map}
use lib.Seq.{length-take-le, take-suc}
use Rattle.answers.specs.declared.Place.{Place}
use Rattle.answers.specs.declared.Place.TheVariants as P
use Rattle.answers.specs.declared.Refusal.{Refusal}
use Rattle.model.specs.FloorText.{LF}
use Rattle.model.specs.Line.{field, place_field, refusal_line}
use Rattle.line.specs.Printing.{move_digits}
pub use Rattle.notation.proofs.Decimals.{digits_few, field_few, printed_then, printed_none}

pub digits-length : (ms : List ℕ) (n : ℕ) → n ≤ length ms → length (move_digits (take n ms)) ≡ n
digits-length ms n h = length-map (take n ms) (λ x. 48 + x) ∙ length-take-le n ms h

-- one move more
pub digits_push : (ms : List ℕ) (n : ℕ) → n < length ms → move_digits (take n ms) ++ (48 + get_or ms n 0) ∷ [] ≡ move_digits (take (n + 1) ms)
digits_push ms n h = sym (map-append (λ x. 48 + x) (take n ms) (get_or ms n 0 ∷ [])) ∙ ap move_digits (sym (take-suc ms n 0 h) ∙ ap (λ k. take k ms) (sym (add-one n)))

-- the line of a refusal, at its longest
place_few : (p : Place) → length (place_field p) ≤ 21
place_few P.Nowhere = omega arith
place_few (P.Cell x) = field_few x
place_few (P.Line x) = field_few x
place_few (P.Record x) = field_few x

pub refusal_few : (r : Refusal) → length (refusal_line r) ≤ 50
unfolding refusal_line
refusal_few r =
    omega (
      arith,
      length-append (field r.number) (place_field r.place ++ (LF ∷ [])),
      length-append (place_field r.place) (LF ∷ []),
      field_few r.number,
      place_few r.place,
    )
