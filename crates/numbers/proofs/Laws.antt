-- What stands at a place of an input: the number that a run of digits makes, after any blanks, or none.
-- Assumes nothing.
use Prim.Native.Nat.{ℕ, suc, ◌+◌, ◌-◌, ◌*◌, ◌≤◌, ◌<◌}
use mathlib.Core.Path.{◌≡◌, refl, sym, ap, ◌∙◌}
use mathlib.Core.Bool.{Bool, true, false, ◌&&◌}
use mathlib.Core.List.{List, [], ◌∷◌}
use native.Mathlib.Nat.{add-zero}
use native.Mathlib.Decide.{dec_le}
use native.Mathlib.Omega.{arith}
use borrow.Author.Tests.{le-leb, lt-leb, ne_eqb}
use lib.Dec.{leb}
use lib.ListN.{length, get_or, drop, drop_of_length-le, length-drop}
use Rattle.model.specs.FloorText.{is_digit}
use Rattle.model.proofs.Openings.{not_both}
use Rattle.notation.specs.declared.digits.Run.{Run}
use Rattle.notation.specs.Runs.{digits_in, value_in, run_at}
use Rattle.notation.proofs.Runs.{digit_bounds, here, one_digit, no_digit, with_small, with_great, stays_great, run_after, run-rest}
use Rattle.std.specs.Prelude.{Option, Some, None, IfSome, not}
use Rattle.std.specs.List.{position, position_from}
use Rattle.std.proofs.lemmas.Iterator.Adapters.{position_from-zero}
use lib.Seq.{drop-drop}
use Rattle.std.proofs.lemmas.Option.{IfSome_then, none-some, same_Some}
use Rattle.numbers.specs.Reading.{is_blank, greatest, digits_from, number_from, number_at}

abbrev found : (value at : ℕ) → Option Run
found value at = Some (record { value = value; after = at })

-- a digit that makes the number too great
too_great : (b n : ℕ) → greatest < n → (is_digit b && leb n greatest) ≡ false
too_great b n h = not_both (is_digit b) (leb n greatest) (λ e. lt-leb n greatest h)

-- the first byte of a number that goes on
module _ (i value : ℕ) where
  at_end_lem : (rest : List ℕ) → rest ≡ [] → found value i ≡ digits_from i value rest
  unfolding digits_from
  at_end_lem rest e = rw e

  at_blank : (b : ℕ) (bs : List ℕ) → is_blank b ≡ true → found value i ≡ digits_from i value (b ∷ bs)
  unfolding digits_from
  at_blank b bs e = rw (digits_from, e)

  at_bad : (b : ℕ) (bs : List ℕ) → is_blank b ≡ false → (is_digit b && leb (10 * value + (b - 48)) greatest) ≡ false → None ≡ digits_from i value (b ∷ bs)
  unfolding digits_from
  at_bad b bs e t = rw (digits_from, e, t)

  at_digit : (b : ℕ) (bs : List ℕ) → is_blank b ≡ false → (48 ≤ b) × (b ≤ 57) × (10 * value + (b - 48) ≤ greatest)
      → digits_from (suc i) (10 * value + (b - 48)) bs ≡ digits_from i value (b ∷ bs)
  unfolding digits_from
  at_digit b bs e h =
      let t : (is_digit b && leb (10 * value + (b - 48)) greatest) ≡ true = rw (le-leb 48 b h.0, le-leb b 57 h.1, le-leb (10 * value + (b - 48)) greatest h.2) in
      sym (rw (e, t, digits_from))

-- a digit is no blank
digit_not_blank : (b : ℕ) → is_digit b ≡ true → is_blank b ≡ false
digit_not_blank b t = let h = digit_bounds b t in rw (ne_eqb b 32 (λ e. omega (arith, h.0)), ne_eqb b 10 (λ e. omega (arith, h.0)))

-- a run of digits at the front: the number goes on after it with its value, or is too great
module _ (at value b : ℕ) (bs : List ℕ) (t : is_digit b ≡ true) where
  abbrev more : ℕ
  more = 10 * value + (b - 48)

  fits : more ≤ greatest → (value_in greatest value (b ∷ bs) ≡ value_in greatest more bs) × (digits_from (suc at) more bs ≡ digits_from at value (b ∷ bs))
  fits h = (
    (one_digit greatest value b bs t).1 ∙ ap (λ v. value_in greatest v bs) (with_small greatest value b h),
    let d = digit_bounds b t in at_digit at value b bs (digit_not_blank b t) (d.0, d.1, h),
  )

  over : greatest < more → (value_in greatest value (b ∷ bs) ≡ greatest + 1) × (None ≡ digits_from at value (b ∷ bs))
  over h = (
    (one_digit greatest value b bs t).1 ∙ ap (λ v. value_in greatest v bs) (with_great greatest value b h) ∙ stays_great greatest bs,
    at_bad at value b bs (digit_not_blank b t) (too_great b more h),
  )

run_on : (at value : ℕ) (bs : List ℕ) → value_in greatest value bs ≤ greatest → digits_from (at + digits_in bs) (value_in greatest value bs) (drop (digits_in bs) bs) ≡ digits_from at value bs
unfolding digits_in value_in
run_on at value [] h = rw (add-zero at)
run_on at value (b ∷ bs) h = go (is_digit b) refl (dec_le (10 * value + (b - 48)) greatest) (λ n l. run_on (suc at) n bs l)
  where
    go : (t : Bool) → is_digit b ≡ t → Dec (10 * value + (b - 48) ≤ greatest)
        → ((n : ℕ) → value_in greatest n bs ≤ greatest → digits_from (suc at + digits_in bs) (value_in greatest n bs) (drop (digits_in bs) bs) ≡ digits_from (suc at) n bs)
        → digits_from (at + digits_in (b ∷ bs)) (value_in greatest value (b ∷ bs)) (drop (digits_in (b ∷ bs)) (b ∷ bs)) ≡ digits_from at value (b ∷ bs)
    go false t d more = let z = no_digit greatest value b bs t in rw (z.0, z.1, add-zero at)
    go true t (yes f) more =
        let k : at + suc (digits_in bs) ≡ suc at + digits_in bs = omega arith in
        let w = fits at value b bs t f in
        rw ((one_digit greatest value b bs t).0, w.0, k) (more (10 * value + (b - 48)) (rw w.0 at h) ∙ w.1)
    go true t (no f) more = absurd (omega (arith, h, (over at value b bs t (omega arith)).0))

run_over : (at value : ℕ) (bs : List ℕ) → value ≤ greatest → greatest < value_in greatest value bs → None ≡ digits_from at value bs
unfolding value_in
run_over at value [] l h = absurd (omega arith)
run_over at value (b ∷ bs) l h = go (is_digit b) refl (dec_le (10 * value + (b - 48)) greatest) (λ n l h. run_over (suc at) n bs l h)
  where
    go : (t : Bool) → is_digit b ≡ t → Dec (10 * value + (b - 48) ≤ greatest) → ((n : ℕ) → n ≤ greatest → greatest < value_in greatest n bs → None ≡ digits_from (suc at) n bs)
        → None ≡ digits_from at value (b ∷ bs)
    go false t d more = absurd (omega (arith, h, (no_digit greatest value b bs t).1))
    go true t (yes f) more = let w = fits at value b bs t f in more (10 * value + (b - 48)) f (rw w.0 at h) ∙ w.1
    go true t (no f) more = (over at value b bs t (omega arith)).1

-- the number at a place, by the run that stands there
module _ (input : List ℕ) (at : ℕ) (r : Run) (e : r ≡ run_at greatest input at) where
  pub digits_over : greatest < r.value → None ≡ digits_from at 0 (drop at input)
  digits_over h = run_over at 0 (drop at input) (omega arith) (rw e at h)

  module _ (h : r.value ≤ greatest) where
    after_run : digits_from r.after r.value (drop r.after input) ≡ digits_from at 0 (drop at input)
    after_run = rw (e, ← run-rest greatest input at) (run_on at 0 (drop at input) (rw e at h))

    pub digits_end : length input ≤ r.after → found r.value r.after ≡ digits_from at 0 (drop at input)
    digits_end l = at_end_lem r.after r.value (drop r.after input) (drop_of_length-le input l) ∙ after_run

    module _ (l : r.after < length input) where
      then_byte : digits_from r.after r.value (get_or input r.after 0 ∷ drop (r.after + 1) input) ≡ digits_from at 0 (drop at input)
      then_byte = ap (digits_from r.after r.value) (sym (here input r.after l)) ∙ after_run

      module _ (b : Bool) (f : b ≡ is_blank (get_or input r.after 0)) where
        pub digits_blank : b ≡ true → found r.value r.after ≡ digits_from at 0 (drop at input)
        digits_blank t = at_blank r.after r.value (get_or input r.after 0) (drop (r.after + 1) input) (sym f ∙ t) ∙ then_byte

        pub digits_bad : b ≡ false → None ≡ digits_from at 0 (drop at input)
        digits_bad t =
            let d : is_digit (get_or input r.after 0) ≡ false = rw e (run_after greatest input at) in
            at_bad r.after r.value (get_or input r.after 0) (drop (r.after + 1) input) (sym f ∙ t) (rw d) ∙ then_byte

-- how far a number reaches
digits_short : (at value : ℕ) (bs : List ℕ) → IfSome (digits_from at value bs) (λ r. r.after ≤ at + length bs)
unfolding digits_from
digits_short at value [] = omega arith
digits_short at value (b ∷ bs) = go (is_blank b) (is_digit b && leb (10 * value + (b - 48)) greatest) (digits_short (suc at) (10 * value + (b - 48)) bs)
  where
    go : (s t : Bool) → IfSome (digits_from (suc at) (10 * value + (b - 48)) bs) (λ r. r.after ≤ suc at + length bs)
        → IfSome (elim s [ true ↦ found value at | false ↦ elim t [ true ↦ digits_from (suc at) (10 * value + (b - 48)) bs | false ↦ None ] ]) (λ r. r.after ≤ at + suc (length bs))
    go true t h = omega arith
    go false true h = IfSome_then (digits_from (suc at) (10 * value + (b - 48)) bs) h (λ r k. omega arith)
    go false false h = tt

-- what stands at a place, by the first byte there that is no blank
abbrev other : ℕ → Bool
other b = not (is_blank b)

-- i blanks are passed, and the next other byte is looked for in what is left
record Passed (at i : ℕ) (bs : List ℕ) (o : Option ℕ) : Type 0 where
  pub none : o ≡ None → number_from at bs ≡ None
  pub some : (k : ℕ) → o ≡ Some k → (i ≤ k) × (number_from at bs ≡ digits_from (at + (k - i)) 0 (drop (k - i) bs))

passed : (at i : ℕ) (bs : List ℕ) → Passed at i bs (position_from other i bs)
unfolding number_from
passed at i [] = record { none = λ e. refl; some = λ k e. absurd (none-some k e) }
passed at i (b ∷ bs) = go (is_blank b) refl (passed (suc at) (i + 1) bs)
  where
    go : (t : Bool) → is_blank b ≡ t → Passed (suc at) (i + 1) bs (position_from other (i + 1) bs) → Passed at i (b ∷ bs) (position_from other i (b ∷ bs))
    go true t h = record {
      none = λ e. rw (number_from, t) (h.none (rw t at e));
      some = λ k e.
          let x = h.some k (rw t at e) in
          let m : k - i ≡ suc (k - (i + 1)) = omega (arith, x.0) in
          let n : at + suc (k - (i + 1)) ≡ suc at + (k - (i + 1)) = omega arith in
          (omega (arith, x.0), rw (m, n, number_from, t) x.1);
    }
    go false t h = record {
      none = λ e. absurd (none-some i (sym (rw t at e)));
      some = λ k e.
          let f : i ≡ k = same_Some i k (rw t at e) in
          let m : k - i ≡ 0 = omega arith in
          (omega arith, rw (m, add-zero at, number_from, t));
    }

module _ (input : List ℕ) (at : ℕ) (o : Option ℕ) (e : o ≡ position other (drop at input)) where
  here_on : Passed at 0 (drop at input) o
  here_on = rw (e, position_from-zero) (passed at 0 (drop at input))

  pub nothing_next : o ≡ None → number_at input at ≡ None
  nothing_next n = here_on.none n

  pub something_next : (k : ℕ) → o ≡ Some k → number_at input at ≡ digits_from (at + k) 0 (drop (at + k) input)
  something_next k n = let z : k - 0 ≡ k = omega arith in rw (drop-drop, z) at (here_on.some k n).1

number_short : (at : ℕ) (bs : List ℕ) → IfSome (number_from at bs) (λ r. r.after ≤ at + length bs)
unfolding number_from
number_short at [] = tt
number_short at (b ∷ bs) = go (is_blank b) (number_short (suc at) bs) (digits_short at 0 (b ∷ bs))
  where
    go : (t : Bool) → IfSome (number_from (suc at) bs) (λ r. r.after ≤ suc at + length bs) → IfSome (digits_from at 0 (b ∷ bs)) (λ r. r.after ≤ at + suc (length bs))
        → IfSome (elim t [ true ↦ number_from (suc at) bs | false ↦ digits_from at 0 (b ∷ bs) ]) (λ r. r.after ≤ at + suc (length bs))
    go true h k = IfSome_then (number_from (suc at) bs) h (λ r l. omega arith)
    go false h k = k

-- a number that is read ends inside the input
pub inside : (input : List ℕ) (at : ℕ) (r : Run) → number_at input at ≡ Some r → at ≤ length input → r.after ≤ length input
inside input at r e h = let x = rw e at (number_short at (drop at input)) in omega (arith, length-drop at input)
