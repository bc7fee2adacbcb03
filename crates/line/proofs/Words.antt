-- A number of a line and the byte after it: what they do to a line which is read from there on.
-- The byte is the LF, a space or malformed; each has one law over `numbers_in`. Assumes nothing.
use Prim.Native.Nat.{ℕ, zero, suc, ◌+◌, ◌-◌, ◌*◌, ◌≤◌, ◌<◌}
use mathlib.Core.Path.{◌≡◌, refl, sym, ap, ◌∙◌, subst}
use mathlib.Core.Bool.{Bool, true, false, ◌&&◌}
use mathlib.Core.Option.{none, some}
use mathlib.Core.List.{List, [], ◌∷◌}
use native.Mathlib.Nat.{add-zero}
use native.Mathlib.Decide.{dec_le, dec_lt}
use native.Mathlib.Omega.{arith}
use borrow.Author.Tests.{le-leb, lt-leb, ne_eqb, eqb-true, eqb-false}
use lib.Dec.{eqb, leb}
use lib.ListN.{length, get_or, drop, drop_of_length-le}
use Rattle.model.specs.FloorText.{LF, is_digit}
use Rattle.model.specs.Line.{numbers_in, after_line}
use Rattle.model.proofs.Accepted.{never}
use Rattle.model.proofs.Openings.{not_both}
use Rattle.line.specs.Reading.{joined, IsWord}
use Rattle.notation.proofs.Decimals.{tens}
use Rattle.notation.specs.declared.digits.Run.{Run}
use Rattle.notation.specs.Runs.{digits_in, value_in, run_at}
use Rattle.notation.proofs.Runs.{digit_bounds, here, one_digit, no_digit, with_small, run_after, run-rest}

-- a byte: a digit, or what ends a number
at_end_lem : (d v : ℕ) (rest : List ℕ) → 1 ≤ d → numbers_in d v (10 ∷ rest) ≡ some (v ∷ [])
unfolding numbers_in
at_end_lem d v rest h = rw (le-leb 1 d h)

at_space : (d v : ℕ) (rest : List ℕ) → 1 ≤ d → numbers_in d v (32 ∷ rest) ≡ joined v (numbers_in 0 0 rest)
unfolding numbers_in
at_space d v rest h = rw (le-leb 1 d h, numbers_in)

at_other : (d v b : ℕ) (rest : List ℕ) → (is_digit b && leb d 6) ≡ false → (b ≡ 10 → ⊥) → (b ≡ 32 → ⊥) → numbers_in d v (b ∷ rest) ≡ none
unfolding numbers_in
at_other d v b rest t e f = rw (ne_eqb b 10 e, t, ne_eqb b 32 f, numbers_in)

-- a byte that is the LF, a space, or another
by_byte : (P : ℕ → Type 0) (b : ℕ) → P 10 → P 32 → ((b ≡ 10 → ⊥) → (b ≡ 32 → ⊥) → P b) → P b
by_byte P b ten space other = go (eqb b 10) refl (eqb b 32) refl
  where
    go : (t : Bool) → eqb b 10 ≡ t → (u : Bool) → eqb b 32 ≡ u → P b
    go true e u f = subst P (sym (eqb-true b 10 e)) ten
    go false e true f = subst P (sym (eqb-true b 32 f)) space
    go false e false f = other (eqb-false b 10 e) (eqb-false b 32 f)

module _ (v b : ℕ) (rest : List ℕ) (t : is_digit b ≡ false) where
  -- no number without a digit
  no_number : numbers_in 0 v (b ∷ rest) ≡ none
  unfolding numbers_in
  no_number = by_byte (λ x. numbers_in 0 v (x ∷ rest) ≡ none) b refl refl (λ e f. at_other 0 v b rest (rw t) e f)

module _ (d v b : ℕ) (rest : List ℕ) (t : is_digit b ≡ true) where
  at_digit : d ≤ 6 → numbers_in d v (b ∷ rest) ≡ numbers_in (suc d) (10 * v + (b - 48)) rest
  unfolding numbers_in
  at_digit l =
      let e : eqb b LF ≡ false = ne_eqb b 10 (λ e. omega (arith, digit_bounds b t)) in
      let u : (is_digit b && leb d 6) ≡ true = rw (t, le-leb d 6 l) in
      rw (e, u, numbers_in)

  at_eighth : 7 ≤ d → numbers_in d v (b ∷ rest) ≡ none
  at_eighth l =
      let h = digit_bounds b t in
      at_other d v b rest (not_both (is_digit b) (leb d 6) (λ e. lt-leb d 6 (omega arith))) (λ e. omega (arith, h.0)) (λ e. omega (arith, h.0))

-- a run of at most 7 digits is below 10,000,000
abbrev longest : ℕ
longest = 9999999

tens-high : (d : ℕ) → d ≤ 7 → tens d ≤ 10000000
unfolding tens
tens-high zero h = omega arith
tens-high (suc zero) h = omega arith
tens-high (suc (suc zero)) h = omega arith
tens-high (suc (suc (suc zero))) h = omega arith
tens-high (suc (suc (suc (suc zero)))) h = omega arith
tens-high (suc (suc (suc (suc (suc zero))))) h = omega arith
tens-high (suc (suc (suc (suc (suc (suc zero)))))) h = omega arith
tens-high (suc (suc (suc (suc (suc (suc (suc zero))))))) h = omega arith
tens-high (suc (suc (suc (suc (suc (suc (suc (suc d)))))))) h = absurd (omega arith)

tens_more : (d v w : ℕ) → v < tens d → w ≤ 9 → 10 * v + w < tens (suc d)
unfolding tens
tens_more d v w h k = omega arith

tens_none : 0 < tens 0
unfolding tens
tens_none = omega arith

-- the line's number goes on after a run of digits, or is too long
run_on : (d v : ℕ) (bs : List ℕ) → v < tens d → d + digits_in bs ≤ 7 → numbers_in (d + digits_in bs) (value_in longest v bs) (drop (digits_in bs) bs) ≡ numbers_in d v bs
unfolding digits_in value_in
run_on d v [] s l = rw (add-zero d)
run_on d v (b ∷ bs) s l = go (is_digit b) refl (λ n k m. run_on (suc d) n bs k m)
  where
    go : (t : Bool) → is_digit b ≡ t
        → ((n : ℕ) → n < tens (suc d) → suc d + digits_in bs ≤ 7 → numbers_in (suc d + digits_in bs) (value_in longest n bs) (drop (digits_in bs) bs) ≡ numbers_in (suc d) n bs)
        → numbers_in (d + digits_in (b ∷ bs)) (value_in longest v (b ∷ bs)) (drop (digits_in (b ∷ bs)) (b ∷ bs)) ≡ numbers_in d v (b ∷ bs)
    go false t more = let z = no_digit longest v b bs t in rw (z.0, z.1, add-zero d)
    go true t more =
        let o = one_digit longest v b bs t in
        let k : d + suc (digits_in bs) ≡ suc d + digits_in bs = omega arith in
        let m : suc d + digits_in bs ≤ 7 = omega (arith, l, o.0) in
        let s' : 10 * v + (b - 48) < tens (suc d) = tens_more d v (b - 48) s (omega (arith, digit_bounds b t)) in
        let w : value_in longest v (b ∷ bs) ≡ value_in longest (10 * v + (b - 48)) bs =
        o.1 ∙ ap (λ x. value_in longest x bs) (with_small longest v b (omega (arith, s', tens-high (suc d) (omega arith)))) in
        rw (o.0, w, k) (more (10 * v + (b - 48)) s' m ∙ sym (at_digit d v b bs t (omega arith)))

run_long : (d v : ℕ) (bs : List ℕ) → d ≤ 7 → 7 < d + digits_in bs → numbers_in d v bs ≡ none
unfolding digits_in
run_long d v [] s l = absurd (omega arith)
run_long d v (b ∷ bs) s l = go (is_digit b) refl (dec_le d 6) (λ n k m. run_long (suc d) n bs k m)
  where
    go : (t : Bool) → is_digit b ≡ t → Dec (d ≤ 6) → ((n : ℕ) → suc d ≤ 7 → 7 < suc d + digits_in bs → numbers_in (suc d) n bs ≡ none) → numbers_in d v (b ∷ bs) ≡ none
    go false t f more = absurd (omega (arith, l, (no_digit 0 0 b bs t).0))
    go true t (yes f) more = at_digit d v b bs t f ∙ more (10 * v + (b - 48)) (omega arith) (omega (arith, l, (one_digit 0 0 b bs t).0))
    go true t (no f) more = at_eighth d v b bs t (omega arith)

-- what stands after the line
after_end : (rest : List ℕ) → after_line (10 ∷ rest) ≡ rest
unfolding after_line
after_end rest = refl

after_byte : (b : ℕ) (rest : List ℕ) → (b ≡ 10 → ⊥) → after_line (b ∷ rest) ≡ after_line rest
unfolding after_line
after_byte b rest e = rw (ne_eqb b 10 e, after_line)

after_run : (bs : List ℕ) → after_line (drop (digits_in bs) bs) ≡ after_line bs
unfolding digits_in
after_run [] = refl
after_run (b ∷ bs) = go (is_digit b) refl (after_run bs)
  where
    go : (t : Bool) → is_digit b ≡ t → after_line (drop (digits_in bs) bs) ≡ after_line bs → after_line (drop (digits_in (b ∷ bs)) (b ∷ bs)) ≡ after_line (b ∷ bs)
    go true t h = rw (one_digit 0 0 b bs t).0 (h ∙ sym (after_byte b bs (λ e. omega (arith, digit_bounds b t))))
    go false t h = rw (no_digit 0 0 b bs t).0

-- ---- a number and the byte after it

pub none_left : (d v : ℕ) → numbers_in d v [] ≡ none
unfolding numbers_in
none_left d v = refl

-- the run of digits at a place
module _ (input : List ℕ) (from : ℕ) (run : Run) (e : run ≡ run_at longest input from) where
  abbrev d : ℕ
  d = run.after - from

  digits : d ≡ digits_in (drop from input)
  digits = omega (arith, ap (λ x. x.after) e)

  bytes : drop run.after input ≡ drop (digits_in (drop from input)) (drop from input)
  bytes = ap (λ x. drop x.after input) e ∙ sym (run-rest longest input from)

  stands : d ≤ 7 → numbers_in d run.value (drop run.after input) ≡ numbers_in 0 0 (drop from input)
  stands l =
      let k : d ≡ 0 + digits_in (drop from input) = omega (arith, digits) in
      let v : run.value ≡ value_in longest 0 (drop from input) = ap (λ x. x.value) e in
      rw (k, v, bytes) (run_on 0 0 (drop from input) tens_none (omega (arith, digits)))

  -- eight digits, and no byte after them
  pub word-long : 7 < d → numbers_in 0 0 (drop from input) ≡ none
  word-long l = run_long 0 0 (drop from input) (omega arith) (omega (arith, digits))

  pub word_out : length input ≤ run.after → numbers_in 0 0 (drop from input) ≡ none
  word_out h = off (dec_le d 7)
    where
      off : Dec (d ≤ 7) → numbers_in 0 0 (drop from input) ≡ none
      off (yes l) = sym (stands l) ∙ ap (numbers_in d run.value) (drop_of_length-le input h) ∙ none_left d run.value
      off (no l) = word-long (omega arith)

  -- and the byte after it
  module _ (h : run.after < length input) where
    abbrev b : ℕ
    b = get_or input run.after 0

    abbrev left : List ℕ
    left = drop (run.after + 1) input

    no_digit_here : is_digit b ≡ false
    no_digit_here = rw e (run_after longest input from)

    then_byte : d ≤ 7 → numbers_in d run.value (b ∷ left) ≡ numbers_in 0 0 (drop from input)
    then_byte l = ap (numbers_in d run.value) (sym (here input run.after h)) ∙ stands l

    line_here : after_line (b ∷ left) ≡ after_line (drop from input)
    line_here = ap after_line (sym (here input run.after h) ∙ bytes) ∙ after_run (drop from input)

    word_none : d ≡ 0 → numbers_in 0 0 (drop from input) ≡ none
    word_none z = sym (then_byte (omega arith)) ∙ ap (λ (k : ℕ). numbers_in k run.value (b ∷ left)) z ∙ no_number run.value b left no_digit_here

    module _ (some : run.after ≡ from → ⊥) (l : d ≤ 7) where
      one : 1 ≤ d
      one = omega (arith, ap (λ x. x.after) e)

      pub word_other : (b ≡ 10 → ⊥) → (b ≡ 32 → ⊥) → numbers_in 0 0 (drop from input) ≡ none
      word_other x y = sym (then_byte l) ∙ at_other d run.value b left (rw no_digit_here) x y

      on : (from < run.after + 1) × (run.after + 1 ≤ length input)
      on = (omega (arith, one), omega arith)

      -- the LF, or a space
      pub word_last : b ≡ 10 → IsWord input from (record { value = run.value; last = true; next = run.after + 1 })
      word_last s = record {
        on = on;
        last = λ _. (
          sym (then_byte l) ∙ ap (λ (x : ℕ). numbers_in d run.value (x ∷ left)) s ∙ at_end_lem d run.value left one,
          sym line_here ∙ ap (λ (x : ℕ). after_line (x ∷ left)) s ∙ after_end left,
        );
        more = λ f. absurd (never refl f);
      }

      pub word_more : b ≡ 32 → IsWord input from (record { value = run.value; last = false; next = run.after + 1 })
      word_more s = record {
        on = on;
        last = λ f. absurd (never f refl);
        more = λ _. (
          sym (then_byte l) ∙ ap (λ (x : ℕ). numbers_in d run.value (x ∷ left)) s ∙ at_space d run.value left one,
          sym line_here ∙ ap (λ (x : ℕ). after_line (x ∷ left)) s ∙ after_byte 32 left (λ z. omega arith),
        );
      }

  -- no digits, or too many of them
  pub word_unformed : (1 ≤ d → d ≤ 7 → ⊥) → numbers_in 0 0 (drop from input) ≡ none
  word_unformed f = by (dec_le 1 d) (dec_le d 7) (dec_lt run.after (length input))
    where
      by : Dec (1 ≤ d) → Dec (d ≤ 7) → Dec (run.after < length input) → numbers_in 0 0 (drop from input) ≡ none
      by (yes one) (yes l) k = absurd (f one l)
      by _ (no l) k = word-long (omega arith)
      by (no z) (yes l) (yes h) = word_none h (omega arith)
      by (no z) (yes l) (no h) = word_out (omega arith)
