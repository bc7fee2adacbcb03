-- The round trip of floor text, both ways: the written header is read back line by line, and its rows as `FloorLines` says; and so is an accepted text written again.
use Prim.Native.Nat.{ℕ, ◌+◌, ◌*◌, ◌≤◌}
use mathlib.Core.Path.{◌≡◌, refl, sym, ap, ap₂, ◌∙◌}
use mathlib.Core.Bool.{Bool, true}
use mathlib.Core.List.{List, [], ◌∷◌, ◌++◌, map}
use native.Mathlib.Nat.{mul_comm}
use native.Mathlib.Omega.{arith}
use borrow.Author.Tests.{le-leb, eq-eqb, eqb-true}
use lib.Dec.{leb, eqb}
use lib.ListN.{length, drop}
use lib.Seq.{drop_at, drop-drop}
use Rattle.answers.specs.Outcomes.{Verdict, read_sizes}
use Rattle.std.specs.Prelude.{Ok}
use Rattle.model.specs.Basics.{every, unless}
use Rattle.model.specs.Floor.{Floor, size, Sized}
use Rattle.model.specs.FloorText.{type_and_height, and_width, and_map, begins, size_in, size_bytes, height_in, after_height, width_in, after_width, rows_in, header}
use Rattle.model.specs.FloorText.{rows, cells_of, floor_verdict, floor_from, read_floor}
use Rattle.model.specs.FloorWritten.{rows_of, size_line, text_of}
use Rattle.model.proofs.Moves.{both, both_of}
use Rattle.model.proofs.Accepted.{then_next, then_done, is_tells, le_tells, and_tells, unless_judges}
use Rattle.model.proofs.FloorTexts.{rows_there, length-cells, length-size}
use Rattle.model.proofs.Cut.{size_most}
use Rattle.model.proofs.FloorLines.{as_read, is_row_byte, size-read, size_again, rows-accepted, rows-read, rows_again}

-- ---- the header

begins_front : (word t : List ℕ) → begins word (word ++ t) ≡ true
unfolding begins
begins_front [] t = refl
begins_front (x ∷ word) t = both_of _ _ (eq-eqb x x refl) (begins_front word t)

begins-split : (word t : List ℕ) → begins word t ≡ true → word ++ drop (length word) t ≡ t
unfolding begins
begins-split [] t e = refl
begins-split (x ∷ word) [] e = let z : ◌≡◌ {A = ℕ} 0 1 = cc in absurd (omega arith)
begins-split (x ∷ word) (y ∷ t) e =
    let (first, others) = both (eqb x y) (begins word t) e in
    ap₂ (λ (z : ℕ) (zs : List ℕ). z ∷ zs) (eqb-true x y first) (begins-split word t others)

size_passed : (n : ℕ) (t : List ℕ) → n ≤ 64 → drop (size_bytes n) (size_line n ++ t) ≡ t
size_passed n t h = drop_at (size_line n) t (size_bytes n) (length-size n (omega arith))

-- of a written text: each line is found again
module _ (f : Floor) (s : Sized f) where
  abbrev in_rows : List ℕ
  in_rows = rows_of f.width f.height f.bytes

  abbrev from_width : List ℕ
  from_width = and_width ++ (size_line f.width ++ (and_map ++ in_rows))

  height-read : height_in (text_of f) ≡ f.height
  unfolding text_of
  height-read = size-read f.height from_width s.high s.low

  height_passed : after_height (text_of f) ≡ from_width
  unfolding text_of
  height_passed =
      ap (λ (n : ℕ). drop (19 + size_bytes n) (text_of f)) height-read ∙ sym (drop-drop (size_bytes f.height) 19 (text_of f)) ∙ size_passed f.height from_width s.low

  width_read : width_in (text_of f) ≡ f.width
  width_read = ap (λ (t : List ℕ). size_in (drop 6 t)) height_passed ∙ size-read f.width (and_map ++ in_rows) s.wide s.narrow

  width_passed : after_width (text_of f) ≡ and_map ++ in_rows
  width_passed =
      (λ i. drop (6 + size_bytes (width_read i)) (height_passed i)) ∙ sym (drop-drop (size_bytes f.width) 6 from_width) ∙ size_passed f.width (and_map ++ in_rows) s.narrow

  rows-found : rows_in (text_of f) ≡ in_rows
  rows-found = ap (drop 4) width_passed

  header-accepted : header (text_of f) ≡ Ok tt
  unfolding header text_of
  header-accepted =
      ap (λ (b : Bool). unless b 11)
      (both_of _ _ (both_of _ _ (both_of _ _ (both_of _ _ (begins_front type_and_height (size_line f.height ++ from_width)) (le-leb 1 (height_in (text_of f)) (omega (arith, height-read, s.high))))
      (ap (begins and_width) height_passed ∙ begins_front and_width (size_line f.width ++ (and_map ++ in_rows)))) (le-leb 1 (width_in (text_of f)) (omega (arith, width_read, s.wide))))
      (ap (begins and_map) width_passed ∙ begins_front and_map in_rows))

  text-accepted : (room : ℕ) → size f ≤ room → floor_verdict (text_of f) room ≡ Ok tt
  unfolding floor_verdict
  text-accepted room h =
      then_next _ header-accepted
      ∙ then_next _ (ap (λ (n : ℕ). unless (leb n room) 2) (ap₂ (λ (w h : ℕ). w * h) width_read height-read) ∙ ap (λ (b : Bool). unless b 2) (le-leb (size f) room h))
      ∙ (λ i. rows (width_read i) (height-read i) 5 (rows-found i)) ∙ rows-accepted f.width f.height 5 f.bytes (omega (arith, s.cells, mul_comm f.width f.height))

-- "Also write floor text from a floor, with `.`, `S` and `@`, so that it reads back the same; bytes above 2 mean blocked, are written `@` and read back as 1": whatever buffer with
-- room is read into, the answer is the floor's sizes, and its bytes are as `as_read` says, with nothing beyond them touched.
pub written_floor_reads_back : (f : Floor) → Sized f → (buffer : List ℕ) → size f ≤ length buffer
    → read_floor (text_of f) buffer ≡ record { answer = read_sizes f.width f.height; buffer = map as_read f.bytes ++ drop (size f) buffer }
unfolding read_floor
written_floor_reads_back f s buffer h =
    let cells : cells_of f.width f.height (rows_of f.width f.height f.bytes) ≡ map as_read f.bytes =
    rows-read f.width f.height f.bytes (s.cells ∙ mul_comm f.width f.height) in
    ap (λ (v : Verdict). floor_from v (text_of f) buffer) (text-accepted f s (length buffer) h)
    ∙ (λ i. record {
      answer = read_sizes (width_read f s i) (height-read f s i);
      buffer = cells_of (width_read f s i) (height-read f s i) (rows-found f s i) ++ drop (width_read f s i * height-read f s i) buffer;
    })
    ∙ ap (λ (bytes : List ℕ). record { answer = read_sizes f.width f.height; buffer = bytes ++ drop (size f) buffer }) cells

-- ---- a text that was accepted

-- the floor that is read from it
abbrev pub floor_in : List ℕ → Floor
floor_in text = record { width = width_in text; height = height_in text; bytes = cells_of (width_in text) (height_in text) (rows_in text) }

module _ (text : List ℕ) (room : ℕ) (e : floor_verdict text room ≡ Ok tt) where
  -- what its header and its rows have shown
  lines : (begins type_and_height text ≡ true) × (1 ≤ height_in text) × (begins and_width (after_height text) ≡ true) × (1 ≤ width_in text) × (begins and_map (after_width text) ≡ true)
  unfolding floor_verdict header
  lines =
      let two = and_tells (and_tells (is_tells (begins type_and_height text)) (le_tells 1 (height_in text))) (is_tells (begins and_width (after_height text))) in
      let tells = and_tells (and_tells two (le_tells 1 (width_in text))) (is_tells (begins and_map (after_width text))) in
      let h = (unless_judges _ 11 tells).gives (then_done _ _ e).0 in
      (h.0.0.0.0, h.0.0.0.1, h.0.0.1, h.0.1, h.1)

  rows-held : rows (width_in text) (height_in text) 5 (rows_in text) ≡ Ok tt
  unfolding floor_verdict
  rows-held =
      let (head, after) = then_done (header text) _ e in
      (then_done (unless (leb (width_in text * height_in text) room) 2) _ after).1

  -- it has a floor's sizes, and a byte for each cell
  pub read-sized : Sized (floor_in text)
  read-sized = record {
    wide = lines.3;
    narrow = size_most (drop 6 (after_height text));
    high = lines.1;
    low = size_most (drop 19 text);
    cells = length-cells (width_in text) (height_in text) (rows_in text) (rows_there (width_in text) (height_in text) 5 (rows_in text) rows-held) ∙ mul_comm (height_in text) (width_in text);
  }

-- And the other way: what is written of a floor that was read of `.`, `S` and `@` alone is the text that it was read from.
pub read_floor_writes_again : (text : List ℕ) (room : ℕ) → floor_verdict text room ≡ Ok tt → every is_row_byte (rows_in text) ≡ true → text_of (floor_in text) ≡ text
unfolding text_of
read_floor_writes_again text room e a =
    let w = width_in text in
    let h = height_in text in
    let (type_line, some-height, width-line, some-width, map-line) = lines text room e in
    let from-map : and_map ++ rows_of w h (cells_of w h (rows_in text)) ≡ after_width text =
    ap (λ (t : List ℕ). and_map ++ t) (rows_again w h 5 (rows_in text) (rows-held text room e) a) ∙ begins-split and_map (after_width text) map-line in
    let from-width : size_line w ++ after_width text ≡ drop 6 (after_height text) =
    ap (λ (t : List ℕ). size_line w ++ t) (sym (drop-drop (size_bytes w) 6 (after_height text))) ∙ size_again (drop 6 (after_height text)) some-width in
    let from-height : size_line h ++ after_height text ≡ drop 19 text =
    ap (λ (t : List ℕ). size_line h ++ t) (sym (drop-drop (size_bytes h) 19 text)) ∙ size_again (drop 19 text) some-height in
    ap (λ (t : List ℕ). type_and_height ++ (size_line h ++ (and_width ++ (size_line w ++ t)))) from-map
    ∙ ap (λ (t : List ℕ). type_and_height ++ (size_line h ++ (and_width ++ t))) from-width
    ∙ ap (λ (t : List ℕ). type_and_height ++ (size_line h ++ t)) (begins-split and_width (after_height text) width-line)
    ∙ ap (λ (t : List ℕ). type_and_height ++ t) from-height
    ∙ begins-split type_and_height text type_line
