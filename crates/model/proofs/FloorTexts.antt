-- Laws of floor text: its rows, one after another, and their cells; a size in digits; how long a written text is. The code cites them, and the round trip.
use Prim.Native.Nat.{ℕ, zero, suc, ◌+◌, ◌-◌, ◌*◌, ◌≤◌, ◌<◌}
use mathlib.Core.Path.{◌≡◌, refl, sym, ◌∙◌}
use mathlib.Core.Bool.{Bool, true, false}
use mathlib.Core.List.{List, ◌∷◌, ◌++◌, map}
use native.Mathlib.Decide.{dec_le}
use native.Mathlib.Omega.{arith}
use borrow.Author.Tests.{leb-true, le-leb, lt-leb, eqb-true}
use lib.Dec.{leb, eqb}
use lib.ListN.{length, get_or, take, drop, length-append, length-drop, length-map}
use lib.Seq.{length-take-le}
use Rattle.answers.specs.declared.Place.TheVariants as P
use Rattle.std.specs.Prelude.{Ok}
use Rattle.model.specs.Basics.{every, refuse_at}
use Rattle.model.specs.Floor.{Floor, Sized}
use Rattle.model.specs.FloorText.{LF, and_width, and_map, size_bytes, is_letter, row_holds, rows, cells_of}
use Rattle.model.specs.Checks.{sizes}
use Rattle.model.specs.Writing.{file_room}
use Rattle.model.specs.FloorWritten.{letter_of, rows_of, size_line, text_of, text_verdict}
use Rattle.model.proofs.Moves.{both}
use Rattle.model.proofs.Accepted.{then_next, then_done, sizes_judges}
use Rattle.model.proofs.Writings.{room_judges}
use Rattle.model.proofs.Digits.{one_digit, two_digits}

-- ---- the rows of a text

-- a row that holds: it is there, all of letters, and ended by its LF
pub row_gives : (w : ℕ) (t : List ℕ) → row_holds w t ≡ true → (w < length t) × (every is_letter (take w t) ≡ true) × (get_or t w 0 ≡ LF)
unfolding row_holds
row_gives w t e =
    let (row, lf) = both _ (eqb (get_or t w 0) LF) e in
    let (long, letters) = both (leb (suc w) (length t)) (every is_letter (take w t)) row in
    (leb-true (suc w) (length t) long, letters, eqb-true _ _ lf)

pub rows-fault : (w n line : ℕ) (t : List ℕ) → row_holds w t ≡ false → 1 ≤ n → refuse_at 12 (P.Line line) ≡ rows w n line t
unfolding rows
rows-fault w zero line t e h = absurd (omega arith)
rows-fault w (suc n) line t e h = rw (rows, e)

pub rows_more : (w n line : ℕ) (t : List ℕ) → row_holds w t ≡ true → rows w (suc n) line t ≡ rows w n (suc line) (drop (suc w) t)
unfolding rows
rows_more w n line t e = rw (rows, e)

-- of rows that were accepted the first holds, and so do the others
pub rows_first : (w n line : ℕ) (t : List ℕ) → rows w (suc n) line t ≡ Ok tt → (row_holds w t ≡ true) × (rows w n (suc line) (drop (suc w) t) ≡ Ok tt)
rows_first w n line t e = by (row_holds w t) refl
  where
    by : (b : Bool) → row_holds w t ≡ b → (row_holds w t ≡ true) × (rows w n (suc line) (drop (suc w) t) ≡ Ok tt)
    by true z = (z, sym (rows_more w n line t z) ∙ e)
    by false z = let y : ◌≡◌ {A = ℕ} 0 1 = cc (rows-fault w (suc n) line t z (omega arith)) in absurd (omega arith)

-- rows that were accepted are all there
pub rows_there : (w n line : ℕ) (t : List ℕ) → rows w n line t ≡ Ok tt → n * (w + 1) ≤ length t
rows_there w zero line t e = omega arith
rows_there w (suc n) line t e =
    let (first, others) = rows_first w n line t e in
    let s : n * (w + 1) ≤ length (drop (suc w) t) = rows_there w n (suc line) (drop (suc w) t) others in
    let d : length (drop (suc w) t) ≡ length t - suc w = length-drop (suc w) t in
    omega (arith, (row_gives w t first).0)

pub length-cells : (w n : ℕ) (t : List ℕ) → n * (w + 1) ≤ length t → length (cells_of w n t) ≡ n * w
unfolding cells_of
length-cells w zero t h = omega arith
length-cells w (suc n) t h =
    let d : length (drop (suc w) t) ≡ length t - suc w = length-drop (suc w) t in
    rw (length-append, length-map, length-take-le w t (omega arith), length-cells w n (drop (suc w) t) (omega arith)) (omega arith)

-- ---- a written text

pub length-rows : (w n : ℕ) (bytes : List ℕ) → n * w ≤ length bytes → length (rows_of w n bytes) ≡ n * (w + 1)
unfolding rows_of
length-rows w zero bytes h = omega arith
length-rows w (suc n) bytes h =
    let d : length (drop w bytes) ≡ length bytes - w = length-drop w bytes in
    let r : length (rows_of w n (drop w bytes)) ≡ n * (w + 1) = length-rows w n (drop w bytes) (omega arith) in
    let t : length (map letter_of (take w bytes)) ≡ w = length-map (take w bytes) letter_of ∙ length-take-le w bytes (omega arith) in
    length-append (map letter_of (take w bytes)) (LF ∷ rows_of w n (drop w bytes)) ∙ omega arith

-- a size takes as many bytes as the reader passes
pub length-size : (n : ℕ) → n ≤ 99 → length (size_line n) ≡ size_bytes n
length-size n k = by (dec_le n 9)
  where
    by : Dec (n ≤ 9) → length (size_line n) ≡ size_bytes n
    by (yes h) = rw (one_digit 19 n h, le-leb n 9 h)
    by (no h) = rw (two_digits n (omega arith) k, lt-leb n 9 (omega arith))

-- the length of a text: the words of the header, the sizes and the rows
pub length-text : (f : Floor) → Sized f → length (text_of f) ≡ 29 + size_bytes f.height + size_bytes f.width + f.height * (f.width + 1)
unfolding text_of
length-text f s =
    let h = size_line f.height in
    let w = size_line f.width in
    let r = rows_of f.width f.height f.bytes in
    omega (
      arith,
      length-append h (and_width ++ (w ++ (and_map ++ r))),
      length-append w (and_map ++ r),
      length-size f.height (omega (arith, s.low)),
      length-size f.width (omega (arith, s.narrow)),
      length-rows f.width f.height f.bytes (omega (arith, s.cells)),
    )

-- A floor of right sizes is refused by 17 alone; and what an accepted writing gives
pub sized_needs_room : (f : Floor) → Sized f → (room : ℕ) → text_verdict f room ≡ file_room (length (text_of f)) room
unfolding text_verdict
sized_needs_room f s room = then_next _ ((sizes_judges f (length f.bytes)).done (s, s.cells))

pub text-gives : (f : Floor) (room : ℕ) → text_verdict f room ≡ Ok tt → Sized f × (length (text_of f) ≤ room)
unfolding text_verdict
text-gives f room e =
    let (sized, roomy) = then_done (sizes f (length f.bytes)) _ e in
    (((sizes_judges f (length f.bytes)).gives sized).0, (room_judges (length (text_of f)) room).gives roomy)
