-- A size of the floor text, by the run of digits at the front and the byte after it.
-- Both sides are worked out for no digit, one, two and more. Assumes nothing.
use mathlib.Core.Path.{◌≡◌, refl, sym, ◌∙◌, ap}
use mathlib.Core.Logic.{◌⊎◌, inl, inr}
use mathlib.Core.Bool.{Bool, true, false, ◌&&◌}
use mathlib.Core.List.{List, [], ◌∷◌}
use Prim.Native.Nat.{ℕ, suc, ◌+◌, ◌-◌, ◌*◌, ◌≤◌, ◌<◌}
use native.Mathlib.Numerals.{add-one}
use native.Mathlib.Omega.{arith}
use lib.Dec.{leb, eqb}
use borrow.Author.Tests.{lt-leb, le-leb, eq-eqb, ne_eqb, eqb-true}
use lib.ListN.{length, take, drop, get_or}
use lib.Seq.{drop-drop, get_or-drop}
use Rattle.std.specs.Cmp.Lexicographic.{pointwise}
use Rattle.std.proofs.Math.Bool.{and-true}
use Rattle.model.specs.Basics.{choose}
use Rattle.model.specs.FloorText.{is_digit, size_in, size_bytes}
use Rattle.model.proofs.Accepted.{never}
use Rattle.model.proofs.Parts.{rest}
use Rattle.notation.specs.declared.digits.Run.{Run}
use Rattle.notation.specs.Runs.{digits_in, with_digit, value_in, run_at}
use Rattle.floor_text.specs.Reads.{Stands}
use Rattle.notation.proofs.Runs.{digit_bounds, no_digit_bounds, digit_at, no_digit_at, with_small}

abbrev size_by : (digits value after : ℕ) → ℕ
size_by digits value after = choose (leb digits 2 && eqb after 10 && leb value 64) value 0

nothing : (b : Bool) → ◌≡◌ {A = ℕ} 0 (choose b 0 0)
nothing true = refl
nothing false = refl

beyond : (b : Bool) (n : ℕ) → choose (b && false) n 0 ≡ 0
beyond true n = refl
beyond false n = refl

without : (b : Bool) (n : ℕ) → choose (b && false && leb n 64) n 0 ≡ 0
without true n = refl
without false n = refl

-- two digits, the first of them no zero, are at least ten
above_nine : (n b : ℕ) → 1 ≤ n → 9 < with_digit 64 n b
above_nine n b h = go (leb (10 * n + (b - 48)) 64)
  where
    go : (c : Bool) → 9 < choose c (10 * n + (b - 48)) 65
    go true = omega arith
    go false = omega arith

-- a number that is too great is as good as the next after the greatest
capped : (n : ℕ) (b : Bool) → choose (b && leb n 64) n 0 ≡ choose (b && leb (choose (leb n 64) n 65) 64) (choose (leb n 64) n 65) 0
capped n false = refl
capped n true = go (leb n 64) refl
  where
    go : (c : Bool) → leb n 64 ≡ c → choose (leb n 64) n 0 ≡ choose (leb (choose (leb n 64) n 65) 64) (choose (leb n 64) n 65) 0
    go true e = simp e
    go false e = simp e

few_digits : (t : List ℕ) → digits_in t ≤ length t
unfolding digits_in
few_digits [] = omega arith
few_digits (b ∷ t) = go (is_digit b) (few_digits t)
  where
    go : (d : Bool) → digits_in t ≤ length t → elim d [ true ↦ suc (digits_in t) | false ↦ 0 ] ≤ suc (length t)
    go true h = omega arith
    go false h = omega arith

-- whether a text begins with a byte, by its first one, which is 0 where there is none
front_byte : (x : ℕ) (t : List ℕ) → 1 ≤ x → pointwise eqb (take 1 t) (x ∷ []) ≡ eqb (get_or t 0 0) x
front_byte x [] h = sym (ne_eqb 0 x (λ e. omega arith))
front_byte x (y ∷ t) h = and-true (eqb y x)

front_zero : (t : List ℕ) → pointwise eqb (48 ∷ []) (take 1 t) ≡ eqb 48 (get_or t 0 0)
front_zero [] = refl
front_zero (y ∷ t) = and-true (eqb 48 y)

module _ (t : List ℕ) where
  abbrev first : ℕ
  first = get_or t 0 0

  abbrev second : ℕ
  second = get_or t 1 0

  abbrev third : ℕ
  third = get_or t 2 0

  no_first : (first < 49) ⊎ (57 < first) → size_in t ≡ 0
  unfolding size_in
  no_first (inl h) = simp (lt-leb 49 first h)
  no_first (inr h) = simp (le-leb 49 first (omega arith), lt-leb first 57 h)

  module _ (h : (49 ≤ first) × (first ≤ 57)) where
    one : is_digit second ≡ false → size_in t ≡ size_by 1 (first - 48) second
    unfolding size_in
    one e = go (eqb second 10) refl
      where
        go : (b : Bool) → eqb second 10 ≡ b → size_in t ≡ size_by 1 (first - 48) second
        go true f = simp (le-leb 49 first h.0, le-leb first 57 h.1, f, le-leb (first - 48) 64 (omega (arith, h.1)))
        go false f = simp (le-leb 49 first h.0, le-leb first 57 h.1, f, e)

    module _ (k : (48 ≤ second) × (second ≤ 57)) where
      abbrev both_digits : ℕ
      both_digits = 10 * (first - 48) + (second - 48)

      two : size_in t ≡ choose (eqb third 10 && leb both_digits 64) both_digits 0
      unfolding size_in
      two = simp (le-leb 49 first h.0, le-leb first 57 h.1, ne_eqb second 10 (λ e. omega (arith, k.0)), le-leb 48 second k.0, le-leb second 57 k.1)

      two_then : size_in t ≡ size_by 2 (with_digit 64 (first - 48) second) third
      two_then = two ∙ capped both_digits (eqb third 10)

      three : is_digit third ≡ true → size_in t ≡ 0
      three e = rw (ne_eqb third 10 (λ f. omega (arith, digit_bounds third e))) at two

  -- what a run of digits says of the size at the front
  pub record By (digits value after : ℕ) : Type 0 where
    pub size : size_in t ≡ size_by digits value after
    pub bytes : digits ≤ 2 → 1 ≤ value → suc digits ≡ size_bytes value

  abbrev by_run : Type 0
  by_run = By (digits_in t) (value_in 64 0 t) (get_or t (digits_in t) 0)

  -- a text that does not begin with a zero, by how many digits it begins with
  module _ (n : first ≡ 48 → ⊥) where
    none_digit : is_digit first ≡ false → by_run
    none_digit a =
        let z = no_digit_at 64 0 t 0 a in
        rw (z.0, z.1) (record { size = no_first (out (no_digit_bounds first a)) ∙ nothing (eqb first 10 && true); bytes = λ _ k. absurd (omega arith) })
      where
        out : (first < 48) ⊎ (57 < first) → (first < 49) ⊎ (57 < first)
        out (inl h) = inl (omega arith)
        out (inr h) = inr h

    module _ (a : is_digit first ≡ true) where
      bounds : (49 ≤ first) × (first ≤ 57)
      bounds = let h = digit_bounds first a in (omega (arith, h.0), h.1)

      after_first : (digits_in t ≡ suc (digits_in (drop 1 t))) × (value_in 64 0 t ≡ value_in 64 (first - 48) (drop 1 t))
      after_first =
          let o = digit_at 64 0 t 0 a in
          let w : with_digit 64 0 first ≡ first - 48 = with_small 64 0 first (omega (arith, bounds.1)) ∙ omega arith in
          (o.0, o.1 ∙ ap (λ v. value_in 64 v (drop 1 t)) w)

      one_digit : is_digit second ≡ false → by_run
      one_digit b =
          let z = no_digit_at 64 (first - 48) t 1 b in
          let d : digits_in t ≡ 1 = omega (arith, after_first.0, z.0) in
          let v : value_in 64 0 t ≡ first - 48 = after_first.1 ∙ z.1 in
          rw (d, v) (record { size = one bounds b; bytes = λ _ _. rw (le-leb (first - 48) 9 (omega (arith, bounds.1))) refl })

      more_digits : (b : is_digit second ≡ true) (c₀ : Bool) → is_digit third ≡ c₀ → by_run
      more_digits b false c =
          let o = digit_at 64 (first - 48) t 1 b in
          let z = no_digit_at 64 (with_digit 64 (first - 48) second) t 2 c in
          let d : digits_in t ≡ 2 = omega (arith, after_first.0, o.0, z.0) in
          let v : value_in 64 0 t ≡ with_digit 64 (first - 48) second = after_first.1 ∙ o.1 ∙ z.1 in
          let l : 9 < with_digit 64 (first - 48) second = above_nine (first - 48) second (omega (arith, bounds.0)) in
          rw (d, v) (record { size = two_then bounds (digit_bounds second b); bytes = λ _ _. rw (lt-leb (with_digit 64 (first - 48) second) 9 l) refl })
      more_digits b true c =
          let d : 2 < digits_in t = omega (arith, after_first.0, (digit_at 64 0 t 1 b).0, (digit_at 64 0 t 2 c).0) in
          record { size = rw (lt-leb (digits_in t) 2 d) (three bounds (digit_bounds second b) c); bytes = λ l _. absurd (omega arith) }

    by_digits : by_run
    by_digits = go (is_digit first) refl (is_digit second) refl
      where
        go : (a₀ : Bool) → is_digit first ≡ a₀ → (b₀ : Bool) → is_digit second ≡ b₀ → by_run
        go false a b₀ b = none_digit a
        go true a false b = one_digit a b
        go true a true b = more_digits a b (is_digit third) refl

  module _ {b : Bool} (e : b ≡ pointwise eqb (48 ∷ []) (take 1 t)) where
    pub size-zero : b ≡ true → size_in t ≡ 0
    size-zero h = let l : 48 ≡ first = eqb-true 48 first (sym (front_zero t) ∙ sym e ∙ h) in no_first (inl (omega arith))

    pub no_zero : b ≡ false → first ≡ 48 → ⊥
    no_zero h l = never (eq-eqb 48 first (sym l)) (sym (front_zero t) ∙ sym e ∙ h)

  module _ {r : Run} (n : first ≡ 48 → ⊥) (e : r ≡ run_at 64 t 0) where
    run_says : By r.after r.value (get_or t r.after 0)
    run_says =
        let a : r.after ≡ digits_in t = omega (arith, ap (λ x. x.after) e) in
        let v : r.value ≡ value_in 64 0 t = ap (λ x. x.value) e in
        rw (a, v) (by_digits n)

    -- more than two digits, none, or too great a number
    pub size_out : (2 < r.after) ⊎ (((r.after ≤ 2) × (r.value < 1)) ⊎ ((r.after ≤ 2) × (1 ≤ r.value) × (64 < r.value))) → size_in t ≡ 0
    size_out (inl h) = rw (lt-leb r.after 2 h) at run_says.size
    size_out (inr (inl h)) = let z : r.value ≡ 0 = omega arith in run_says.size ∙ rw z (sym (nothing _))
    size_out (inr (inr h)) = let l : 64 < r.value = h.2 in run_says.size ∙ rw (lt-leb r.value 64 l) (beyond _ r.value)

    pub run_there : r.after ≤ length t
    run_there = omega (arith, few_digits t, ap (λ x. x.after) e)

    -- the byte after the run
    abbrev next : ℕ
    next = get_or t r.after 0

    next_front : pointwise eqb (take 1 (take (length t - r.after) (drop r.after t))) (10 ∷ []) ≡ eqb next 10
    next_front = rw (rest r.after t) (front_byte 10 (drop r.after t) (omega arith) ∙ ap (λ (b : ℕ). eqb b 10) (get_or-drop r.after t 0 0 ∙ ap (λ (i : ℕ). get_or t i 0) (omega arith)))

    pub size_no_LF : pointwise eqb (take 1 (take (length t - r.after) (drop r.after t))) (10 ∷ []) ≡ false → size_in t ≡ 0
    size_no_LF f = run_says.size ∙ rw (sym next_front ∙ f) (without (leb r.after 2) r.value)

    pub size-whole : (r.after ≤ 2) × (1 ≤ r.value) × (r.value ≤ 64) → {after : List ℕ} → pointwise eqb (take 1 (take (length t - r.after) (drop r.after t))) (10 ∷ []) ≡ true
        → after ≡ drop 1 (take (length t - r.after) (drop r.after t)) → Stands t r.value after
    size-whole h f p =
        let l : r.value ≤ 64 = h.2 in
        record {
          size = sym (rw (le-leb r.after 2 h.0, sym next_front ∙ f, le-leb r.value 64 l) at run_says.size);
          one = h.1;
          most = l;
          past = p ∙ ap (drop 1) (rest r.after t) ∙ drop-drop 1 r.after t ∙ ap (λ (j : ℕ). drop j t) (add-one r.after ∙ run_says.bytes h.0 h.1);
        }
