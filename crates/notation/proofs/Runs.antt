-- A run of decimal digits, digit by digit: what the one at the front adds, and that none stands after the last. Assumes nothing.
use Prim.Native.Nat.{ℕ, suc, ◌+◌, ◌-◌, ◌*◌, ◌≤◌, ◌<◌}
use mathlib.Core.Path.{◌≡◌, refl, sym, ap, ◌∙◌}
use mathlib.Core.Logic.{◌⊎◌, inl, inr}
use mathlib.Core.Bool.{Bool, true, false}
use mathlib.Core.List.{List, [], ◌∷◌}
use native.Mathlib.Decide.{dec_le, dec_lt}
use native.Mathlib.Numerals.{add-one}
use native.Mathlib.Omega.{arith}
use borrow.Author.Tests.{leb-true, le-leb, lt-leb}
use lib.Dec.{leb}
use lib.ListN.{length, get_or, drop, drop_of_length-le, get_or-eq_default}
use lib.Seq.{drop-cons, drop-drop, get_or-drop}
use Rattle.model.specs.FloorText.{is_digit}
use Rattle.model.proofs.Moves.{both}
use Rattle.model.proofs.Accepted.{never}
use Rattle.notation.specs.declared.digits.Run.{Run}
use Rattle.notation.specs.Runs.{digits_in, with_digit, value_in, run_at}

pub digit_bounds : (b : ℕ) → is_digit b ≡ true → (48 ≤ b) × (b ≤ 57)
digit_bounds b t = let h = both (leb 48 b) (leb b 57) t in (leb-true 48 b h.0, leb-true b 57 h.1)

pub no_digit_bounds : (b : ℕ) → is_digit b ≡ false → (b < 48) ⊎ (57 < b)
no_digit_bounds b t = go (dec_le 48 b) (dec_le b 57)
  where
    go : Dec (48 ≤ b) → Dec (b ≤ 57) → (b < 48) ⊎ (57 < b)
    go (no h) k = inl (omega arith)
    go (yes h) (no k) = inr (omega arith)
    go (yes h) (yes k) = absurd (never (rw (le-leb 48 b h, le-leb b 57 k)) t)

-- the byte at a place, and the rest
pub here : (text : List ℕ) (i : ℕ) → i < length text → drop i text ≡ get_or text i 0 ∷ drop (i + 1) text
here text i h = drop-cons text i 0 h ∙ ap (λ k. get_or text i 0 ∷ drop k text) (sym (add-one i))

-- the byte at the front is a digit, or none
module _ (most value b : ℕ) (bs : List ℕ) where
  pub one_digit : is_digit b ≡ true → (digits_in (b ∷ bs) ≡ suc (digits_in bs)) × (value_in most value (b ∷ bs) ≡ value_in most (with_digit most value b) bs)
  unfolding digits_in value_in
  one_digit t = (rw (t, digits_in), rw (t, value_in))

  pub no_digit : is_digit b ≡ false → (digits_in (b ∷ bs) ≡ 0) × (value_in most value (b ∷ bs) ≡ value)
  unfolding digits_in value_in
  no_digit t = (rw (t, digits_in), rw (t, value_in))

-- the same at a place of a text, where 0 stands past its end
module _ (most value : ℕ) (text : List ℕ) (i : ℕ) where
  pub digit_at : is_digit (get_or text i 0) ≡ true
      → (digits_in (drop i text) ≡ suc (digits_in (drop (i + 1) text))) × (value_in most value (drop i text) ≡ value_in most (with_digit most value (get_or text i 0)) (drop (i + 1) text))
  digit_at t = go (dec_lt i (length text))
    where
      go : Dec (i < length text)
          → (digits_in (drop i text) ≡ suc (digits_in (drop (i + 1) text))) × (value_in most value (drop i text) ≡ value_in most (with_digit most value (get_or text i 0)) (drop (i + 1) text))
      go (yes h) = rw (here text i h) (one_digit most value (get_or text i 0) (drop (i + 1) text) t)
      go (no h) = absurd (never t (ap is_digit (get_or-eq_default text 0 (omega arith))))

  pub no_digit_at : is_digit (get_or text i 0) ≡ false → (digits_in (drop i text) ≡ 0) × (value_in most value (drop i text) ≡ value)
  unfolding digits_in value_in
  no_digit_at t = go (dec_lt i (length text))
    where
      go : Dec (i < length text) → (digits_in (drop i text) ≡ 0) × (value_in most value (drop i text) ≡ value)
      go (yes h) = rw (here text i h) (no_digit most value (get_or text i 0) (drop (i + 1) text) t)
      go (no h) = let e = drop_of_length-le text {i = i} (omega arith) in (ap digits_in e, ap (value_in most value) e)

-- the byte after the last digit is none
after_digits : (bs : List ℕ) → is_digit (get_or bs (digits_in bs) 0) ≡ false
unfolding digits_in
after_digits [] = refl
after_digits (b ∷ bs) = go (is_digit b) refl (after_digits bs)
  where
    go : (t : Bool) → is_digit b ≡ t → is_digit (get_or bs (digits_in bs) 0) ≡ false → is_digit (get_or (b ∷ bs) (digits_in (b ∷ bs)) 0) ≡ false
    go true t h = rw (one_digit 0 0 b bs t).0 h
    go false t h = rw (no_digit 0 0 b bs t).0 t

-- a digit more where the value stays small, and where it does not; a value above the greatest stays so
module _ (most value b : ℕ) where
  pub with_small : 10 * value + (b - 48) ≤ most → with_digit most value b ≡ 10 * value + (b - 48)
  with_small h = rw (le-leb (10 * value + (b - 48)) most h)

  pub with_great : most < 10 * value + (b - 48) → with_digit most value b ≡ most + 1
  with_great h = rw (lt-leb (10 * value + (b - 48)) most h)

pub stays_great : (most : ℕ) (bs : List ℕ) → value_in most (most + 1) bs ≡ most + 1
unfolding value_in
stays_great most [] = refl
stays_great most (b ∷ bs) = go (is_digit b) refl (stays_great most bs)
  where
    go : (t : Bool) → is_digit b ≡ t → value_in most (most + 1) bs ≡ most + 1 → value_in most (most + 1) (b ∷ bs) ≡ most + 1
    go true t h = (one_digit most (most + 1) b bs t).1 ∙ ap (λ v. value_in most v bs) (with_great most (most + 1) b (omega arith)) ∙ h
    go false t h = (no_digit most (most + 1) b bs t).1

-- the run at a place ends at a byte that is no digit, and the text goes on there
module _ (most : ℕ) (text : List ℕ) (at : ℕ) where
  pub run_after : is_digit (get_or text (run_at most text at).after 0) ≡ false
  run_after = rw (get_or-drop at text (digits_in (drop at text)) 0) at (after_digits (drop at text))

  pub run-rest : drop (digits_in (drop at text)) (drop at text) ≡ drop (run_at most text at).after text
  run-rest = drop-drop (digits_in (drop at text)) at text

-- digits so far, those from `at` to i: what is left to read makes the same run
pub record Reading (most : ℕ) (text : List ℕ) (at value i : ℕ) : Type 0 where
  pub small : value ≤ most + 1
  pub left : record { value = value_in most value (drop i text); after = i + digits_in (drop i text) } ≡ run_at most text at

module _ (most : ℕ) (text : List ℕ) (at : ℕ) where
  pub reading : Reading most text at 0 at
  reading = record { small = omega arith; left = refl }

  module _ {value i : ℕ} (g : Reading most text at value i) where
    run : ℕ → ℕ → Run
    run v a = record { value = v; after = a }

    stops : (digits_in (drop i text) ≡ 0) × (value_in most value (drop i text) ≡ value) → run value i ≡ run_at most text at
    unfolding run
    stops h = let z : i ≡ i + digits_in (drop i text) = omega (arith, h.0) in ap (run value) z ∙ ap (λ v. run v (i + digits_in (drop i text))) (sym h.1) ∙ g.left

    pub reading-end : length text ≤ i → record { value = value; after = i } ≡ run_at most text at
    unfolding run
    reading-end h = stops (no_digit_at most value text i (ap is_digit (get_or-eq_default text 0 h)))

    -- by whether the byte here is a digit
    module _ (b : Bool) (f : b ≡ is_digit (get_or text i 0)) where
      pub reading-stop : b ≡ false → record { value = value; after = i } ≡ run_at most text at
      unfolding run
      reading-stop t = stops (no_digit_at most value text i (sym f ∙ t))

      pub reading_more : b ≡ true → (v : ℕ) → (v ≡ with_digit most value (get_or text i 0)) × (v ≤ most + 1) → Reading most text at v (i + 1)
      unfolding run
      reading_more t v e =
          let o = digit_at most value text i (sym f ∙ t) in
          let n : i + 1 + digits_in (drop (i + 1) text) ≡ i + digits_in (drop i text) = omega (arith, o.0) in
          record {
            small = e.1;
            left = ap (run (value_in most v (drop (i + 1) text))) n
                ∙ ap (λ x. run x (i + digits_in (drop i text))) (ap (λ x. value_in most x (drop (i + 1) text)) e.0 ∙ sym o.1) ∙ g.left;
          }
