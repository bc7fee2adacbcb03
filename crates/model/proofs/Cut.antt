-- What decides stands in the first 4,252 bytes of any input: cut there or anywhere later, it is told by `aisle` as the whole is.
-- A line that asks for something has at most 56 bytes, a header 35 and the rows 4,160; one byte more shows that they are not the last. Assumes nothing.
use Prim.Native.Nat.{ℕ, zero, suc, ◌+◌, ◌-◌, ◌*◌, ◌≤◌, ◌<◌, min}
use mathlib.Core.Path.{◌≡◌, refl, sym, ap, ◌∙◌}
use mathlib.Core.Bool.{Bool, true, false, ◌&&◌}
use mathlib.Core.Option.{Option, none, some}
use mathlib.Core.List.{List, [], ◌∷◌}
use native.Mathlib.Nat.{mul-le-mul_right}
use native.Mathlib.Decide.{dec_le}
use native.Mathlib.Omega.{arith}
use borrow.Author.Tests.{le-leb, lt-leb, leb-true, ne_eqb}
use lib.Dec.{leb, eqb}
use lib.ListN.{length, get_or, take, drop, length-take, replicate}
use lib.Seq.{take-take, get_or-take}
use Rattle.answers.specs.declared.Place.TheVariants as P
use Rattle.answers.specs.declared.Settings.{Settings}
use Rattle.answers.specs.Outcomes.{Verdict}
use Rattle.std.specs.Prelude.{Ok, Err}
use Rattle.model.specs.Basics.{choose, between, then, unless}
use Rattle.model.specs.Floor.{opening_table}
use Rattle.model.specs.Checks.{floor_of, goals, settings}
use Rattle.model.specs.Opening.{trials_hold, open_job}
use Rattle.model.specs.Ride.{course_from}
use Rattle.model.specs.FloorText.{LF, is_digit, type_and_height, and_width, and_map, begins, size_in, size_bytes, height_in, after_height, width_in, after_width, rows_in, header, row_holds, rows}
use Rattle.model.specs.FloorText.{cells_of, floor_verdict}
use Rattle.model.specs.Line.{numbers_in, after_line, settings_by, read_line_by, default_depth, read_line, job_in, refusal_line, course_lines, judge_aisle, printed, aisle_by, aisle}
use Rattle.model.proofs.Moves.{both}
use Rattle.model.proofs.Parts.{drop-cut}
use Rattle.model.proofs.Accepted.{is_tells, le_tells, and_tells}

-- ---- the line

-- a number, then the others of its line
abbrev pub joined : ℕ → Option (List ℕ) → Option (List ℕ)
joined v o = elim o [ none ↦ none | some ns ↦ some (v ∷ ns) ]

-- the numbers of a line, where they are at most c
abbrev few_of : ℕ → List ℕ → Option (List ℕ)
few_of zero [] = some []
few_of zero (n ∷ ns) = none
few_of (suc c) [] = some []
few_of (suc c) (n ∷ ns) = joined n (few_of c ns)

abbrev few : ℕ → Option (List ℕ) → Option (List ℕ)
few c none = none
few c (some ns) = few_of c ns

few_joined : (c v : ℕ) (o : Option (List ℕ)) → few (suc c) (joined v o) ≡ joined v (few c o)
few_joined c v none = refl
few_joined c v (some ns) = refl

-- a line that says something has one number at least
none_few : (bs : List ℕ) (d v : ℕ) → few 0 (numbers_in d v bs) ≡ none
unfolding numbers_in
none_few [] d v = refl
none_few (b ∷ bs) d v = by (eqb b LF) (is_digit b && leb d 6) (eqb b 32 && leb 1 d) (leb 1 d) (numbers_in 0 0 bs) refl refl refl refl refl (none_few bs (suc d) (10 * v + (b - 48)))
  where
    by : (lf digit space one : Bool) (next : Option (List ℕ)) → eqb b LF ≡ lf → (is_digit b && leb d 6) ≡ digit → (eqb b 32 && leb 1 d) ≡ space → leb 1 d ≡ one → numbers_in 0 0 bs ≡ next
        → few 0 (numbers_in (suc d) (10 * v + (b - 48)) bs) ≡ none → few 0 (numbers_in d v (b ∷ bs)) ≡ none
    by true digit space true next e f g h i on = rw (e, h, numbers_in)
    by true digit space false next e f g h i on = rw (e, h, numbers_in)
    by false true space one next e f g h i on = rw (e, f, numbers_in) on
    by false false true one none e f g h i on = rw (e, f, g, i, numbers_in)
    by false false true one (some ns) e f g h i on = rw (e, f, g, i, numbers_in)
    by false false false one next e f g h i on = rw (e, f, g, numbers_in)

-- As lines of at most c numbers two say the same, and the texts after a line that says something begin alike for m bytes.
record Alike (c m : ℕ) (o p : Option (List ℕ)) (s t : List ℕ) : Type 0 where
  says : few c o ≡ few c p
  text : (few c p ≡ none → ⊥) → take m s ≡ take m t

-- n bytes are enough for c numbers, each of seven digits and a space or LF, of which d digits are read, and for m bytes of text
line-cut : (bs : List ℕ) (c d v m n : ℕ) → m + 8 * c ≤ n + d → d ≤ 7 → Alike c m (numbers_in d v (take n bs)) (numbers_in d v bs) (after_line (take n bs)) (after_line bs)
unfolding numbers_in after_line
line-cut bs zero d v m n h k = record { says = none_few (take n bs) d v ∙ sym (none_few bs d v); text = λ f. absurd (f (none_few bs d v)) }
line-cut bs (suc c) d v m zero h k = absurd (omega arith)
line-cut [] (suc c) d v m (suc n) h k = record { says = refl; text = λ f. refl }
line-cut (b ∷ bs) (suc c) d v m (suc n) h k =
    by (eqb b LF) (is_digit b && leb d 6) (eqb b 32 && leb 1 d) refl refl refl (λ l. line-cut bs (suc c) (suc d) (10 * v + (b - 48)) m n (omega arith) l)
    (line-cut bs c 0 0 m n (omega arith) (omega arith))
  where
    by : (lf digit space : Bool) → eqb b LF ≡ lf → (is_digit b && leb d 6) ≡ digit → (eqb b 32 && leb 1 d) ≡ space
        → (suc d ≤ 7 → Alike (suc c) m (numbers_in (suc d) (10 * v + (b - 48)) (take n bs)) (numbers_in (suc d) (10 * v + (b - 48)) bs) (after_line (take n bs)) (after_line bs))
        → Alike c m (numbers_in 0 0 (take n bs)) (numbers_in 0 0 bs) (after_line (take n bs)) (after_line bs)
        → Alike (suc c) m (numbers_in d v (b ∷ take n bs)) (numbers_in d v (b ∷ bs)) (after_line (b ∷ take n bs)) (after_line (b ∷ bs))
    by true digit space e f g on next = rw (e, numbers_in, after_line) (record { says = refl; text = λ s. take-take m n bs (omega arith) })
    by false true space e f g on next = rw (e, f, numbers_in, after_line) (on (omega (arith, leb-true d 6 (both (is_digit b) (leb d 6) f).1)))
    by false false true e f g on next =
        rw (e, f, g, numbers_in, after_line)
        (record {
          says = few_joined c v (numbers_in 0 0 (take n bs)) ∙ ap (joined v) next.says ∙ sym (few_joined c v (numbers_in 0 0 bs));
          text = λ s. next.text (λ z. s (few_joined c v (numbers_in 0 0 bs) ∙ ap (joined v) z));
        })
    by false false false e f g on next = rw (e, f, g, numbers_in, after_line) (record { says = refl; text = λ s. absurd (s refl) })

-- what the numbers of a line ask for; more than seven, for nothing
abbrev pub asks_of : (default : ℕ) → Option (List ℕ) → Option Settings
asks_of default o = elim o [ none ↦ none | some ns ↦ settings_by default ns ]

asks_few : (o : Option (List ℕ)) → asks_of default_depth o ≡ asks_of default_depth (few 7 o)
asks_few none = refl
asks_few (some []) = refl
asks_few (some (a ∷ [])) = refl
asks_few (some (a ∷ b ∷ [])) = refl
asks_few (some (a ∷ b ∷ c ∷ [])) = refl
asks_few (some (a ∷ b ∷ c ∷ d ∷ [])) = refl
asks_few (some (a ∷ b ∷ c ∷ d ∷ e ∷ [])) = refl
asks_few (some (a ∷ b ∷ c ∷ d ∷ e ∷ f ∷ [])) = refl
asks_few (some (a ∷ b ∷ c ∷ d ∷ e ∷ f ∷ g ∷ [])) = refl
asks_few (some (a ∷ b ∷ c ∷ d ∷ e ∷ f ∷ g ∷ x ∷ xs)) = refl

-- the whole line, and m bytes after it
module _ (input : List ℕ) (m n : ℕ) (h : m + 56 ≤ n) where
  cut : Alike 7 m (numbers_in 0 0 (take n input)) (numbers_in 0 0 input) (after_line (take n input)) (after_line input)
  cut = line-cut input 7 0 0 m n (omega arith) (omega arith)

  pub line-says : read_line (take n input) ≡ read_line input
  unfolding read_line_by
  line-says = asks_few (numbers_in 0 0 (take n input)) ∙ ap (asks_of default_depth) cut.says ∙ sym (asks_few (numbers_in 0 0 input))

  line-text : (s : Settings) → read_line input ≡ some s → take m (after_line (take n input)) ≡ take m (after_line input)
  unfolding read_line_by
  line-text s e = cut.text (λ z. let y : some s ≡ none = sym e ∙ asks_few (numbers_in 0 0 input) ∙ ap (asks_of default_depth) z in let x : ◌≡◌ {A = ℕ} 0 1 = cc in omega arith)

-- ---- the floor text

-- each part of the text reads a few bytes, and says the same where they are not cut off
begins-cut : (xs t : List ℕ) (m : ℕ) → length xs ≤ m → begins xs (take m t) ≡ begins xs t
unfolding begins
begins-cut [] t m h = refl
begins-cut (x ∷ xs) t zero h = absurd (omega arith)
begins-cut (x ∷ xs) [] (suc m) h = refl
begins-cut (x ∷ xs) (y ∷ ys) (suc m) h = ap (λ b. eqb x y && b) (begins-cut xs ys m (omega arith))

size-cut : (t : List ℕ) (m : ℕ) → 3 ≤ m → size_in (take m t) ≡ size_in t
unfolding size_in
size-cut t m h = rw (get_or-take m t 0 0 (omega arith), get_or-take m t 1 0 (omega arith), get_or-take m t 2 0 (omega arith))

long-cut : (n m : ℕ) (t : List ℕ) → n ≤ m → leb n (length (take m t)) ≡ leb n (length t)
long-cut n m t h = rw (length-take m t) (by (dec_le n (length t)))
  where
    by : Dec (n ≤ length t) → leb n (min m (length t)) ≡ leb n (length t)
    by (yes l) = le-leb n (min m (length t)) (omega arith) ∙ sym (le-leb n (length t) l)
    by (no l) = lt-leb n (min m (length t)) (omega arith) ∙ sym (lt-leb n (length t) (omega arith))

row_cut : (w : ℕ) (t : List ℕ) (m : ℕ) → w < m → row_holds w (take m t) ≡ row_holds w t
unfolding row_holds
row_cut w t m h = rw (long-cut (suc w) m t (omega arith), take-take w m t (omega arith), get_or-take m t w 0 h)

empty-cut : (m : ℕ) (t : List ℕ) → 1 ≤ m → eqb (length (take m t)) 0 ≡ eqb (length t) 0
empty-cut zero t h = absurd (omega arith)
empty-cut (suc m) [] h = refl
empty-cut (suc m) (x ∷ xs) h = ne_eqb (suc (length (take m xs))) 0 (λ e. omega arith) ∙ sym (ne_eqb (suc (length xs)) 0 (λ e. omega arith))

rows_cut : (w n line m : ℕ) (t : List ℕ) → n * (w + 1) < m → rows w n line (take m t) ≡ rows w n line t
unfolding rows
rows_cut w zero line m t h = rw (empty-cut m t (omega arith))
rows_cut w (suc n) line m t h = by (row_holds w t) refl (rows_cut w n (suc line) (m - suc w) (drop (suc w) t) (omega arith))
  where
    by : (b : Bool) → row_holds w t ≡ b → rows w n (suc line) (take (m - suc w) (drop (suc w) t)) ≡ rows w n (suc line) (drop (suc w) t) → rows w (suc n) line (take m t) ≡ rows w (suc n) line t
    by true e r = rw (row_cut w t m (omega arith), e, drop-cut (suc w) m t, rows) r
    by false e r = rw (row_cut w t m (omega arith), e, rows)

cells_cut : (w n m : ℕ) (t : List ℕ) → n * (w + 1) ≤ m → cells_of w n (take m t) ≡ cells_of w n t
unfolding cells_of
cells_cut w zero m t h = refl
cells_cut w (suc n) m t h = rw (take-take w m t (omega arith), drop-cut (suc w) m t, cells_cut w n (m - suc w) (drop (suc w) t) (omega arith))

-- a size is 64 at most, and takes three bytes at most
pub size_most : (text : List ℕ) → size_in text ≤ 64
unfolding size_in
size_most text = by (between 49 a 57 && eqb b LF) (between 49 a 57 && is_digit b && eqb (get_or text 2 0) LF && leb (10 * (a - 48) + (b - 48)) 64) refl refl
  where
    a : ℕ
    a = get_or text 0 0

    b : ℕ
    b = get_or text 1 0

    by : (x y : Bool) → (between 49 a 57 && eqb b LF) ≡ x → (between 49 a 57 && is_digit b && eqb (get_or text 2 0) LF && leb (10 * (a - 48) + (b - 48)) 64) ≡ y
        → choose x (a - 48) (choose y (10 * (a - 48) + (b - 48)) 0) ≤ 64
    by true y e f = let t = (and_tells (and_tells (le_tells 49 a) (le_tells a 57)) (is_tells (eqb b LF))).holds e in omega (arith, t.0.1)
    by false true e f = ((and_tells (is_tells (between 49 a 57 && is_digit b && eqb (get_or text 2 0) LF)) (le_tells (10 * (a - 48) + (b - 48)) 64)).holds f).1
    by false false e f = omega arith

size-bytes : (n : ℕ) → size_bytes n ≤ 3
size-bytes n = by (leb n 9)
  where
    by : (b : Bool) → choose {A = ℕ} b 2 3 ≤ 3
    by true = omega arith
    by false = omega arith

-- the whole text
module _ (t : List ℕ) (m : ℕ) (h : 4196 ≤ m) where
  height-cut : height_in (take m t) ≡ height_in t
  height-cut = ap size_in (drop-cut 19 m t) ∙ size-cut (drop 19 t) (m - 19) (omega arith)

  -- how many bytes are left after the height's line, and after the width's
  abbrev left₁ : ℕ
  left₁ = m - (19 + size_bytes (height_in t))

  many₁ : 4174 ≤ left₁
  many₁ = omega (arith, size-bytes (height_in t))

  after_height_cut : after_height (take m t) ≡ take left₁ (after_height t)
  after_height_cut = ap (λ n. drop (19 + size_bytes n) (take m t)) height-cut ∙ drop-cut (19 + size_bytes (height_in t)) m t

  width-cut : width_in (take m t) ≡ width_in t
  width-cut = ap (λ l. size_in (drop 6 l)) after_height_cut ∙ ap size_in (drop-cut 6 left₁ (after_height t)) ∙ size-cut (drop 6 (after_height t)) (left₁ - 6) (omega (arith, many₁))

  abbrev left₂ : ℕ
  left₂ = left₁ - (6 + size_bytes (width_in t))

  many₂ : 4165 ≤ left₂
  many₂ = omega (arith, many₁, size-bytes (width_in t))

  after_width_cut : after_width (take m t) ≡ take left₂ (after_width t)
  after_width_cut = (λ i. drop (6 + size_bytes (width-cut i)) (after_height_cut i)) ∙ drop-cut (6 + size_bytes (width_in t)) left₁ (after_height t)

  rows_in_cut : rows_in (take m t) ≡ take (left₂ - 4) (rows_in t)
  rows_in_cut = ap (drop 4) after_width_cut ∙ drop-cut 4 left₂ (after_width t)

  header-cut : header (take m t) ≡ header t
  unfolding header
  header-cut = λ i. unless (type_line i && leb 1 (height-cut i) && width-line i && leb 1 (width-cut i) && map-line i) 11
    where
      type_line : begins type_and_height (take m t) ≡ begins type_and_height t
      type_line = begins-cut type_and_height t m (omega arith)

      width-line : begins and_width (after_height (take m t)) ≡ begins and_width (after_height t)
      width-line = ap (begins and_width) after_height_cut ∙ begins-cut and_width (after_height t) left₁ (omega (arith, many₁))

      map-line : begins and_map (after_width (take m t)) ≡ begins and_map (after_width t)
      map-line = ap (begins and_map) after_width_cut ∙ begins-cut and_map (after_width t) left₂ (omega (arith, many₂))

  -- 64 rows of 65 bytes at most, and one byte more
  room : height_in t * (width_in t + 1) < left₂ - 4
  room =
      let a : height_in t * (width_in t + 1) ≤ 64 * (width_in t + 1) = mul-le-mul_right {m = height_in t} {n = 64} (width_in t + 1) (size_most (drop 19 t)) in
      omega (arith, size_most (drop 6 (after_height t)), many₂)

  cells_same : cells_of (width_in (take m t)) (height_in (take m t)) (rows_in (take m t)) ≡ cells_of (width_in t) (height_in t) (rows_in t)
  cells_same = (λ i. cells_of (width-cut i) (height-cut i) (rows_in_cut i)) ∙ cells_cut (width_in t) (height_in t) (left₂ - 4) (rows_in t) (omega (arith, room))

  verdict_same : floor_verdict (take m t) 4096 ≡ floor_verdict t 4096
  unfolding floor_verdict
  verdict_same =
      (λ i. then (header-cut i) (then (unless (leb (width-cut i * height-cut i) 4096) 2) (rows (width-cut i) (height-cut i) 5 (rows_in_cut i))))
      ∙ ap (λ r. then (header t) (then (unless (leb (width_in t * height_in t) 4096) 2) r)) (rows_cut (width_in t) (height_in t) 5 (left₂ - 4) (rows_in t) room)

  judged_same : (s : Settings) → judge_aisle s (take m t) ≡ judge_aisle s t
  unfolding judge_aisle
  judged_same s = λ i.
      let j = job_in s (width-cut i) (height-cut i) in
      then (settings j) (then (trials_hold s.trials) (then (verdict_same i) (open_job j (cells_same i) s.start (opening_table (floor_of j (cells_same i)) s.q (goals j)))))

  printed_same : (v : Verdict) (s : Settings) → printed v s (take m t) ≡ printed v s t
  printed_same (Err r) s = refl
  printed_same (Ok _) s = λ i.
      let j = job_in s (width-cut i) (height-cut i) in
      course_lines j (cells_same i) (course_from j (cells_same i) s.start s.trials (opening_table (floor_of j (cells_same i)) s.q (goals j)) (replicate (width-cut i * height-cut i) 0))

  text-cut : (s : Settings) → printed (judge_aisle s (take m t)) s (take m t) ≡ printed (judge_aisle s t) s t
  text-cut s = ap (λ v. printed v s (take m t)) (judged_same s) ∙ printed_same (judge_aisle s t) s

-- ---- the whole

module _ (input : List ℕ) where
  pub malformed_is : read_line input ≡ none → aisle input ≡ refusal_line (record { number = 3; place = P.Nowhere })
  unfolding aisle_by
  malformed_is e = rw (e, aisle_by)

  pub asked_is : (s : Settings) → read_line input ≡ some s → aisle input ≡ printed (judge_aisle s (after_line input)) s (after_line input)
  unfolding aisle_by
  asked_is s e = rw (e, aisle_by)

pub aisle-cut : (n : ℕ) (input : List ℕ) → 4252 ≤ n → aisle (take n input) ≡ aisle input
aisle-cut n input h = by (read_line input) refl
  where
    says : read_line (take n input) ≡ read_line input
    says = line-says input 4196 n (omega arith)

    by : (o : Option Settings) → read_line input ≡ o → aisle (take n input) ≡ aisle input
    by none e = malformed_is (take n input) (says ∙ e) ∙ sym (malformed_is input e)
    by (some s) e =
        asked_is (take n input) s (says ∙ e)
        ∙ sym (text-cut (after_line (take n input)) 4196 (omega arith) s)
        ∙ ap (λ t. printed (judge_aisle s t) s t) (line-text input 4196 n (omega arith) s e)
        ∙ text-cut (after_line input) 4196 (omega arith) s
        ∙ sym (asked_is input s e)
