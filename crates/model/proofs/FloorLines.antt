-- A line of floor text, written and read: a byte's letter, a size in digits, a row. What is written is read, and what is read of written letters is written again.
use Prim.Native.Nat.{ℕ, zero, suc, ◌+◌, ◌-◌, ◌*◌, ◌/◌, ◌%◌, ◌≤◌, ◌<◌}
use mathlib.Core.Path.{◌≡◌, refl, sym, ap, ap₂, ◌∙◌}
use mathlib.Core.Bool.{Bool, true, false, ◌&&◌, ◌||◌}
use mathlib.Core.Logic.{◌⊎◌, inl, inr}
use mathlib.Core.List.{List, [], ◌∷◌, ◌++◌, map, map-append}
use native.Mathlib.Decide.{dec_le, dec_lt}
use native.Mathlib.Omega.{arith}
use borrow.Author.Tests.{le-leb, lt-leb, leb-true, leb-false, eq-eqb, ne_eqb, eqb-true, eqb-false}
use lib.Dec.{leb, eqb}
use lib.ListN.{length, get_or, take, drop, length-append, length-drop, length-map, take-append-drop, get_or-eq_default}
use lib.Seq.{length-take-le, take_at, drop_at, get_or_at, split_at, drop-cons, drop-append-add}
use Rattle.std.specs.Prelude.{Ok}
use Rattle.model.specs.Basics.{choose, between, every}
use Rattle.model.specs.Floor.{plain_byte, blocked_byte, slow_byte}
use Rattle.model.specs.FloorText.{LF, is_digit, size_in, size_bytes, is_letter, byte_of, row_holds, rows, cells_of}
use Rattle.model.specs.FloorWritten.{letter_of, rows_of, size_line}
use Rattle.model.proofs.Moves.{both, both_of}
use Rattle.model.proofs.Accepted.{is_tells, le_tells, and_tells}
use Rattle.model.proofs.Digits.{one_digit, two_digits}
use Rattle.model.proofs.FloorTexts.{row_gives, rows_more, rows_first}
use Rattle.model.proofs.Records.{pair_at}

-- ---- a byte and its letter

-- a byte as it is read back: 0, 1 and 2 as they are, and every other as 1
abbrev pub as_read : ℕ → ℕ
as_read b = choose (leb b slow_byte) b blocked_byte

-- the letters that are written
abbrev pub is_written : ℕ → Bool
is_written b = eqb b 46 || eqb b 83 || eqb b 64

letter_holds : (b : ℕ) → is_letter (letter_of b) ≡ true
letter_holds b = by (eqb b plain_byte) (eqb b slow_byte)
  where
    by : (p s : Bool) → is_letter (choose p 46 (choose s 83 64)) ≡ true
    by true s = refl
    by false true = refl
    by false false = refl

letter_read : (b : ℕ) → byte_of (letter_of b) ≡ as_read b
letter_read b = by (eqb b plain_byte) refl (eqb b slow_byte) refl (leb b slow_byte) refl
  where
    by : (p : Bool) → eqb b plain_byte ≡ p → (s : Bool) → eqb b slow_byte ≡ s → (l : Bool) → leb b slow_byte ≡ l → byte_of (choose p 46 (choose s 83 64)) ≡ choose l b blocked_byte
    by true e s f true g = sym (eqb-true b plain_byte e)
    by true e s f false g = absurd (omega (arith, eqb-true b plain_byte e, leb-false b slow_byte g))
    by false e true f true g = sym (eqb-true b slow_byte f)
    by false e true f false g = absurd (omega (arith, eqb-true b slow_byte f, leb-false b slow_byte g))
    by false e false f true g = omega (arith, eqb-false b plain_byte e, eqb-false b slow_byte f, leb-true b slow_byte g)
    by false e false f false g = refl

letter_again : (x : ℕ) → is_written x ≡ true → letter_of (byte_of x) ≡ x
letter_again x e = by (eqb x 46) refl (eqb x 83) refl (eqb x 64) refl
  where
    by : (p : Bool) → eqb x 46 ≡ p → (s : Bool) → eqb x 83 ≡ s → (k : Bool) → eqb x 64 ≡ k → letter_of (byte_of x) ≡ x
    by true p s q k r = let z = eqb-true x 46 p in rw z
    by false p true q k r = let z = eqb-true x 83 q in rw z
    by false p false q true r = let z = eqb-true x 64 r in rw z
    by false p false q false r = let z = rw (p, q, r) at e in let y : ◌≡◌ {A = ℕ} 0 1 = cc in absurd (omega arith)

-- ---- a size and its line

-- what is written is read
pub size-read : (n : ℕ) (t : List ℕ) → 1 ≤ n → n ≤ 64 → size_in (size_line n ++ t) ≡ n
unfolding size_in
size-read n t l m = by (dec_le n 9)
  where
    by : Dec (n ≤ 9) → size_in (size_line n ++ t) ≡ n
    by (yes h) = rw (one_digit 19 n h, le-leb 49 (48 + n) (omega arith), le-leb (48 + n) 57 (omega arith)) (omega arith)
    by (no h) =
        let value = 10 * (48 + n / 10 - 48) + (48 + n % 10 - 48) in
        let v : value ≡ n = omega arith in
        rw (
          two_digits n (omega arith) (omega arith),
          le-leb 49 (48 + n / 10) (omega arith),
          le-leb (48 + n / 10) 57 (omega arith),
          ne_eqb (48 + n % 10) 10 (λ e. omega arith),
          le-leb 48 (48 + n % 10) (omega arith),
          le-leb (48 + n % 10) 57 (omega arith),
          le-leb value 64 (omega arith),
        ) v

-- a byte that is not 0 stands in its list
stands : (t : List ℕ) (i : ℕ) → 1 ≤ get_or t i 0 → i < length t
stands t i h = by (dec_lt i (length t))
  where
    by : Dec (i < length t) → i < length t
    by (yes l) = l
    by (no l) = absurd (omega (arith, get_or-eq_default t 0 {n = i} (omega arith)))

-- a size that is read is one digit or two, and the LF
module _ (t : List ℕ) where
  abbrev a : ℕ
  a = get_or t 0 0

  abbrev b : ℕ
  b = get_or t 1 0

  abbrev c : ℕ
  c = get_or t 2 0

  abbrev n : ℕ
  n = 10 * (a - 48) + (b - 48)

  abbrev One : Type 0
  One = (49 ≤ a) × (a ≤ 57) × (b ≡ LF) × (size_in t ≡ a - 48)

  abbrev Two : Type 0
  Two = (49 ≤ a) × (a ≤ 57) × (48 ≤ b) × (b ≤ 57) × (c ≡ LF) × (size_in t ≡ n)

  digits : 1 ≤ size_in t → One ⊎ Two
  unfolding size_in
  digits l = by (between 49 a 57 && eqb b LF) refl (between 49 a 57 && is_digit b && eqb c LF && leb n 64) refl
    where
      by : (x : Bool) → (between 49 a 57 && eqb b LF) ≡ x → (y : Bool) → (between 49 a 57 && is_digit b && eqb c LF && leb n 64) ≡ y → One ⊎ Two
      by true p y q =
          let (first, lf) = (and_tells (and_tells (le_tells 49 a) (le_tells a 57)) (is_tells (eqb b LF))).holds p in
          inl (first.0, first.1, eqb-true b LF lf, rw p)
      by false p true q =
          let (bytes, small) = both (between 49 a 57 && is_digit b && eqb c LF) (leb n 64) q in
          let (numbers, lf) = both (between 49 a 57 && is_digit b) (eqb c LF) bytes in
          let (first, second) = (and_tells (and_tells (le_tells 49 a) (le_tells a 57)) (and_tells (le_tells 48 b) (le_tells b 57))).holds numbers in
          inr (first.0, first.1, second.0, second.1, eqb-true c LF lf, rw (p, q))
      by false p false q = absurd (omega (arith, rw (p, q) at l))

  -- what is read is written
  pub size_again : 1 ≤ size_in t → size_line (size_in t) ++ drop (size_bytes (size_in t)) t ≡ t
  size_again l = by (digits l)
    where
      by : One ⊎ Two → size_line (size_in t) ++ drop (size_bytes (size_in t)) t ≡ t
      by (inl (low, high, lf, v)) =
          let e : 48 + (a - 48) ≡ a = omega arith in
          let m : a - 48 ≤ 9 = omega arith in
          rw (v, one_digit 19 (a - 48) m, le-leb (a - 48) 9 m) ((λ i. e i ∷ sym lf i ∷ drop 2 t) ∙ sym (pair_at t 0 (omega (arith, stands t 1 (omega arith)))))
      by (inr (low, high, low', high', lf, v)) =
          let d : 48 + n / 10 ≡ a = omega arith in
          let e : 48 + n % 10 ≡ b = omega arith in
          let three : 2 < length t = stands t 2 (omega arith) in
          rw (v, two_digits n (omega arith) (omega arith), lt-leb n 9 (omega arith))
          ((λ i. d i ∷ e i ∷ sym lf i ∷ drop 3 t) ∙ sym (pair_at t 0 (omega arith) ∙ ap (λ (u : List ℕ). a ∷ b ∷ u) (drop-cons t 2 0 three)))

-- ---- a row and its letters

letters_hold : (bytes : List ℕ) → every is_letter (map letter_of bytes) ≡ true
unfolding every
letters_hold [] = refl
letters_hold (b ∷ bytes) = both_of _ _ (letter_holds b) (letters_hold bytes)

letters-read : (bytes : List ℕ) → map byte_of (map letter_of bytes) ≡ map as_read bytes
letters-read [] = refl
letters-read (b ∷ bytes) = ap₂ (λ (x : ℕ) (xs : List ℕ). x ∷ xs) (letter_read b) (letters-read bytes)

letters_again : (ls : List ℕ) → every is_written ls ≡ true → map letter_of (map byte_of ls) ≡ ls
unfolding every
letters_again [] e = refl
letters_again (l ∷ ls) e = let (first, others) = both (is_written l) (every is_written ls) e in ap₂ (λ (x : ℕ) (xs : List ℕ). x ∷ xs) (letter_again l first) (letters_again ls others)

-- a byte of rows in which no other letter stands
abbrev pub is_row_byte : ℕ → Bool
is_row_byte b = is_written b || eqb b LF

every_drop : (n : ℕ) (t : List ℕ) → every is_row_byte t ≡ true → every is_row_byte (drop n t) ≡ true
unfolding every
every_drop zero t e = e
every_drop (suc n) [] e = refl
every_drop (suc n) (b ∷ t) e = every_drop n t (both (is_row_byte b) (every is_row_byte t) e).1

written_letter : (b : ℕ) → is_letter b ≡ true → is_row_byte b ≡ true → is_written b ≡ true
written_letter b l e = by (is_written b) refl (eqb b LF) refl
  where
    by : (x : Bool) → is_written b ≡ x → (y : Bool) → eqb b LF ≡ y → is_written b ≡ true
    by true p y q = p
    by false p true q = let z = eqb-true b LF q in let y = rw z at l in let x : ◌≡◌ {A = ℕ} 0 1 = cc in absurd (omega arith)
    by false p false q = let z = rw (p, q) at e in let x : ◌≡◌ {A = ℕ} 0 1 = cc in absurd (omega arith)

written-letters : (n : ℕ) (t : List ℕ) → every is_letter (take n t) ≡ true → every is_row_byte t ≡ true → every is_written (take n t) ≡ true
unfolding every
written-letters zero t l e = refl
written-letters (suc n) [] l e = refl
written-letters (suc n) (b ∷ t) l e =
    let (one, more) = both (is_letter b) (every is_letter (take n t)) l in
    let (first, others) = both (is_row_byte b) (every is_row_byte t) e in
    both_of _ _ (written_letter b one first) (written-letters n t more others)

-- a row of letters, its LF, and what stands after it
module _ (w : ℕ) (ls after : List ℕ) (n : length ls ≡ w) where
  row-letters : take w (ls ++ LF ∷ after) ≡ ls
  row-letters = take_at ls (LF ∷ after) w n

  row_after : drop (suc w) (ls ++ LF ∷ after) ≡ after
  row_after = let e : suc w ≡ length ls + 1 = omega arith in rw e (drop-append-add ls (LF ∷ after) 1)

  row-holds : every is_letter ls ≡ true → row_holds w (ls ++ LF ∷ after) ≡ true
  unfolding row_holds
  row-holds e =
      both_of _ _ (both_of _ _ (le-leb (suc w) (length (ls ++ LF ∷ after)) (omega (arith, length-append ls (LF ∷ after)))) (ap (every is_letter) row-letters ∙ e))
      (eq-eqb _ LF (get_or_at ls LF after 0 w n))

-- written rows are accepted, and give the bytes as they are read
module _ (w : ℕ) where
  length-letters : (bytes : List ℕ) → w ≤ length bytes → length (map letter_of (take w bytes)) ≡ w
  length-letters bytes h = length-map (take w bytes) letter_of ∙ length-take-le w bytes h

  pub rows-accepted : (n line : ℕ) (bytes : List ℕ) → n * w ≤ length bytes → rows w n line (rows_of w n bytes) ≡ Ok tt
  unfolding rows rows_of
  rows-accepted zero line bytes h = refl
  rows-accepted (suc n) line bytes h =
      let ls = map letter_of (take w bytes) in
      let after = rows_of w n (drop w bytes) in
      let l = length-letters bytes (omega arith) in
      let d : length (drop w bytes) ≡ length bytes - w = length-drop w bytes in
      rows_more w n line (ls ++ LF ∷ after) (row-holds w ls after l (letters_hold (take w bytes)))
      ∙ ap (rows w n (suc line)) (row_after w ls after l) ∙ rows-accepted n (suc line) (drop w bytes) (omega arith)

  pub rows-read : (n : ℕ) (bytes : List ℕ) → length bytes ≡ n * w → cells_of w n (rows_of w n bytes) ≡ map as_read bytes
  unfolding cells_of rows_of
  rows-read zero [] h = refl
  rows-read zero (b ∷ bytes) h = absurd (omega arith)
  rows-read (suc n) bytes h =
      let ls = map letter_of (take w bytes) in
      let after = rows_of w n (drop w bytes) in
      let l = length-letters bytes (omega arith) in
      let d : length (drop w bytes) ≡ n * w = length-drop w bytes ∙ omega arith in
      ap₂ (λ (xs ys : List ℕ). xs ++ ys) (ap (map byte_of) (row-letters w ls after l) ∙ letters-read (take w bytes)) (ap (cells_of w n) (row_after w ls after l) ∙ rows-read n (drop w bytes) d)
      ∙ sym (map-append as_read (take w bytes) (drop w bytes)) ∙ ap (map as_read) (take-append-drop w bytes)

  -- accepted rows of these letters alone are written again
  pub rows_again : (n line : ℕ) (t : List ℕ) → rows w n line t ≡ Ok tt → every is_row_byte t ≡ true → rows_of w n (cells_of w n t) ≡ t
  unfolding rows cells_of rows_of
  rows_again zero line [] e a = refl
  rows_again zero line (b ∷ t) e a = let z : ◌≡◌ {A = ℕ} 0 1 = cc (rw (ne_eqb (length (b ∷ t)) 0 (λ e. omega arith)) at e) in absurd (omega arith)
  rows_again (suc n) line t e a =
      let (first, others) = rows_first w n line t e in
      let (long, letters, lf) = row_gives w t first in
      let cells = map byte_of (take w t) in
      let after = cells_of w n (drop (suc w) t) in
      let l : length cells ≡ w = length-map (take w t) byte_of ∙ length-take-le w t (omega arith) in
      let again = letters_again (take w t) (written-letters w t letters a) in
      let row : map letter_of (take w (cells ++ after)) ≡ take w t = ap (map letter_of) (take_at cells after w l) ∙ again in
      let rest : rows_of w n (drop w (cells ++ after)) ≡ drop (suc w) t =
      ap (rows_of w n) (drop_at cells after w l) ∙ rows_again n (suc line) (drop (suc w) t) others (every_drop (suc w) t a) in
      (λ i. row i ++ sym lf i ∷ rest i) ∙ sym (split_at t w 0 long)
