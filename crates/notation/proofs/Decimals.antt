-- Numbers in decimal: how many digits, and the last one.
-- Twenty digits are enough for any machine word, so the number of digits allowed for does not matter. Assumes nothing.
use Prim.Native.Nat.{ℕ, zero, suc, ◌+◌, ◌*◌, ◌/◌, ◌%◌, ◌≤◌, ◌<◌}
use mathlib.Core.Path.{◌≡◌, refl, sym, ap, ◌∙◌}
use mathlib.Core.Bool.{Bool, true, false}
use mathlib.Core.List.{List, [], ◌∷◌, ◌++◌, append_assoc, append-nil}
use native.Mathlib.Numerals.{add-one}
use native.Mathlib.Nat.{add-suc, add-zero, suc-add}
use native.Mathlib.Decide.{dec_le}
use native.Mathlib.Omega.{arith}
use borrow.Rule.Slice.PartMut.{put_mid}
use lib.Dec.{leb}
use lib.ListN.{length, set, take, drop, get_or, length-append, drop_of_length-le}
use lib.Seq.{sets, sets-eq, take_at, take-suc, take_all, drop-cons, set_at, drop-drop, length-take-le}
use Rattle.model.specs.Line.{decimal_in, decimal, field}
use Rattle.model.proofs.Digits.{one_digit, last_digit}
use Rattle.notation.specs.Printing.{Printed}

unfoldable pub tens : ℕ → ℕ
tens zero = 1
tens (suc n) = 10 * tens n

tens_down : (d n : ℕ) → n < tens (suc d) → n / 10 < tens d
unfolding tens
tens_down d n h = omega arith

small : (n : ℕ) → n < tens 1 → n ≤ 9
unfolding tens
small n h = omega arith

-- any number of digits that is enough gives the same
enough : (a b n : ℕ) → n < tens (suc a) → n < tens (suc b) → decimal_in (suc a) n ≡ decimal_in (suc b) n
enough zero b n h k = let l = small n h in one_digit 0 n l ∙ sym (one_digit b n l)
enough (suc a) zero n h k = let l = small n k in one_digit (suc a) n l ∙ sym (one_digit 0 n l)
enough (suc a) (suc b) n h k = go (dec_le n 9) (enough a b (n / 10) (tens_down (suc a) n h) (tens_down (suc b) n k))
  where
    go : Dec (n ≤ 9) → decimal_in (suc a) (n / 10) ≡ decimal_in (suc b) (n / 10) → decimal_in (suc (suc a)) n ≡ decimal_in (suc (suc b)) n
    go (yes l) e = one_digit (suc a) n l ∙ sym (one_digit (suc b) n l)
    go (no l) e = last_digit (suc a) n (omega arith) ∙ ap (λ ds. ds ++ (48 + n % 10) ∷ []) e ∙ sym (last_digit (suc b) n (omega arith))

pub digit_one : (n : ℕ) → n ≤ 9 → decimal n ≡ (48 + n) ∷ []
digit_one n h = one_digit 19 n h

-- a machine word
pub digit_last : (n : ℕ) → 9 < n → n < 18446744073709551616 → decimal n ≡ decimal (n / 10) ++ (48 + n % 10) ∷ []
unfolding tens
digit_last n h k = last_digit 19 n h ∙ ap (λ ds. ds ++ (48 + n % 10) ∷ []) (enough 18 19 (n / 10) (omega arith) (omega arith))

pub digits_more : (n : ℕ) → 9 < n → n < 18446744073709551616 → length (decimal n) ≡ length (decimal (n / 10)) + 1
digits_more n h k = ap length (digit_last n h k) ∙ length-append (decimal (n / 10)) ((48 + n % 10) ∷ [])

few : (most n : ℕ) → length (decimal_in most n) ≤ most
unfolding decimal_in
few zero n = omega arith
few (suc most) n = go (leb n 9) (few most (n / 10))
  where
    go : (b : Bool) → length (decimal_in most (n / 10)) ≤ most → length {A = ℕ} (elim b [ true ↦ (48 + n) ∷ [] | false ↦ decimal_in most (n / 10) ++ (48 + n % 10) ∷ [] ]) ≤ suc most
    go true h = omega arith
    go false h = omega (arith, length-append (decimal_in most (n / 10)) ((48 + n % 10) ∷ []))

pub digits_few : (n : ℕ) → length (decimal n) ≤ 20
digits_few n = few 20 n

-- some bytes after others
sets-append : (l : List ℕ) (i : ℕ) (xs ys : List ℕ) → sets l i (xs ++ ys) ≡ sets (sets l i xs) (i + length xs) ys
sets-append l i [] ys = ap (λ k. sets l k ys) (sym (add-zero i))
sets-append l i (x ∷ xs) ys = sets-append (set l i x) (suc i) xs ys ∙ ap (λ k. sets (sets (set l i x) (suc i) xs) k ys) (suc-add i (length xs) ∙ sym (add-suc i (length xs)))

-- one thing after another
pub printed_then : {out mid out' : List ℕ} {at end end' : ℕ} (xs ys : List ℕ) → Printed out at xs mid end → Printed mid end ys out' end' → Printed out at (xs ++ ys) out' end'
printed_then {out} {mid} {out'} {at} {end} {end'} xs ys P Q = record {
  written = Q.written ∙ ap (λ l. sets l end ys) P.written ∙ ap (λ i. sets (sets out at xs) i ys) P.next ∙ sym (sets-append out at xs ys);
  next = omega (arith, P.next, Q.next, length-append xs ys);
}

pub printed_none : (out : List ℕ) (at : ℕ) → Printed out at [] out at
printed_none out at = record { written = refl; next = sym (add-zero at) }

-- what stands in front then
pub printed_front : {out out' : List ℕ} {at end : ℕ} (xs : List ℕ) → Printed out at xs out' end → at + length xs ≤ length out → take end out' ≡ take at out ++ xs
printed_front {out} {out'} {at} {end} xs P h =
    let n : length (take at out ++ xs) ≡ at + length xs = length-append (take at out) xs ∙ ap (λ (k : ℕ). k + length xs) (length-take-le at out (omega arith)) in
    rw P.next (ap (take (at + length xs)) (P.written ∙ sets-eq xs out at h) ∙ take_at (take at out ++ xs) (drop (at + length xs) out) (at + length xs) n)

pub field_few : (n : ℕ) → length (field n) ≤ 21
field_few n = omega (arith, digits_few n)

-- bytes copied over a part of a list
pub copied : (out s ys : List ℕ) (at k : ℕ) → ys ≡ s → k ≡ length s → at + length s ≤ length out → put_mid at k out ys ≡ sets out at s
copied out s ys at k e f h = rw (e, f, drop-drop (length s) at out) (sym (sets-eq s out at h ∙ append_assoc (take at out) s (drop (at + length s) out)))

-- while they are copied: one byte more, and all of them
pub copied_more : (s part₀ : List ℕ) {part : List ℕ} (i : ℕ) → part ≡ take i s ++ drop i part₀ → i < length s → length part₀ ≡ length s → set part i (get_or s i 0) ≡ take (i + 1) s ++ drop (i + 1) part₀
copied_more s part₀ i so_far l m =
    let b : i < length part₀ = omega arith in
    let put = set_at (take i s) (get_or part₀ i 0) (drop (suc i) part₀) (get_or s i 0) i (length-take-le i s (omega arith)) in
    rw (so_far, add-one, take-suc s i 0, append_assoc, drop-cons part₀ i 0, put)

pub copied_all : (s part₀ : List ℕ) {part : List ℕ} (i : ℕ) → part ≡ take i s ++ drop i part₀ → length s ≤ i → length part₀ ≡ length s → part ≡ s
copied_all s part₀ i so_far l m = rw (so_far, take_all i s l, drop_of_length-le part₀ {i = i} (omega arith)) (append-nil s)
