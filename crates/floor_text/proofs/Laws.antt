-- Laws of the floor text's definitions, one for each way through the code's tests.
-- A loop's invariant says that what is left to judge answers like the whole.
use mathlib.Core.Path.{◌≡◌, refl, sym, ◌∙◌, ap}
use mathlib.Core.Bool.{Bool, true, false, not}
use mathlib.Core.List.{List, [], ◌∷◌, ◌++◌, map, append_assoc, append-nil}
use Prim.Native.Nat.{ℕ, zero, suc, ◌+◌, ◌-◌, ◌*◌, ◌≤◌, ◌<◌}
use native.Mathlib.Numerals.{add-one}
use native.Mathlib.Nat.{mul-le-mul_right, mul_comm}
use native.Mathlib.Omega.{arith}
use lib.Dec.{leb, eqb}
use borrow.Author.Tests.{lt-leb, le-leb, not-true, not-false}
use lib.ListN.{length, take, drop, set, get_or, length-append, length-take, length-drop, length-map}
use lib.Seq.{drop-cons, take-suc, set_at, drop-drop, take_at, drop_at, length-take-le}
use Rattle.answers.specs.Says.{says_floor_read}
use Rattle.answers.specs.declared.Place.TheVariants as P
use Rattle.answers.specs.declared.Refusal.{Refusal}
use Rattle.answers.specs.Outcomes.{read_sizes}
use Rattle.std.specs.Prelude.{Ok, Err}
use Rattle.std.specs.List.{list_all}
use Rattle.std.specs.Cmp.Lexicographic.{pointwise}
use Rattle.std.proofs.Math.Bool.{and-true, and-false}
use Rattle.std.proofs.lemmas.Bool.Decides.{nat_tests}
use Rattle.std.proofs.lemmas.List.{map-append}
use Rattle.model.specs.Basics.{choose, every, refuse_at}
use Rattle.model.specs.FloorText.{begins, size_in, size_bytes, header, height_in, width_in, after_height, after_width, type_and_height, and_width, and_map}
use Rattle.model.specs.FloorText.{is_letter, byte_of, row_holds, rows, cells_of, read_floor, floor_verdict}
use Rattle.model.proofs.Accepted.{Judges, le_tells, is_tells, and_tells, told, unless_judges}
use Rattle.model.proofs.Parts.{rest}
use Rattle.model.proofs.FloorTexts.{rows-fault, rows_more, length-cells}
use Rattle.floor_text.specs.Reads.{Stands, Sound, Reads}

eqb_swap : (x y : ℕ) → eqb x y ≡ eqb y x
eqb_swap x y = grind (arith, nat_tests)

-- Whether a text begins with these bytes.
pub begins_is : (w t : List ℕ) → pointwise eqb (take (length w) t) w ≡ begins w t
unfolding begins
begins_is [] t = refl
begins_is (x ∷ xs) [] = refl
begins_is (x ∷ xs) (y ∷ ys) = rw (eqb_swap y x, begins_is xs ys)

-- The letters of a row.
every_all : (xs : List ℕ) → every is_letter xs ≡ list_all is_letter xs
unfolding every
every_all [] = refl
every_all (x ∷ xs) = rw (every_all xs)

module _ (w : ℕ) (t : List ℕ) where
  pub row-short : length t ≤ w → false ≡ row_holds w t
  unfolding row_holds
  row-short h = simp (lt-leb (suc w) (length t) (omega arith))

  pub row_no_LF : eqb (get_or t w 0) 10 ≡ false → false ≡ row_holds w t
  unfolding row_holds
  row_no_LF e = rw e (sym (and-false _))

  pub row_by_letters : w < length t → eqb (get_or t w 0) 10 ≡ true → {b : Bool} → b ≡ list_all is_letter (take w t) → b ≡ row_holds w t
  unfolding row_holds
  row_by_letters h e k = simp (le-leb (suc w) (length t) (omega arith), e) (k ∙ sym (every_all (take w t)) ∙ sym (and-true _))

-- The rows, one after another: after the given number of sound ones
pub record Rowed (w h : ℕ) (text t : List ℕ) (row : ℕ) : Type 0 where
  pub most : row ≤ h
  pub left : rows w (h - row) (5 + row) t ≡ rows w h 5 text

module _ {w h : ℕ} {text t : List ℕ} {row : ℕ} (g : Rowed w h text t row) where
  pub rowed_more : {b : Bool} → b ≡ row_holds w t → not b ≡ false → row < h → Rowed w h text (take (length t - (w + 1)) (drop (w + 1) t)) (row + 1)
  rowed_more e n l = record {
    most = omega arith;
    left =
        let k : h - row ≡ suc (h - (row + 1)) = omega arith in
        let m : 5 + (row + 1) ≡ suc (5 + row) = omega arith in
        let z = rw k at g.left in
        rw (rest (w + 1) t, m, add-one w) (sym (rows_more w (h - (row + 1)) (5 + row) t (sym e ∙ not-false _ n)) ∙ z);
  }

  pub rowed_fault : {b : Bool} → b ≡ row_holds w t → not b ≡ true → row < h → refuse_at 12 (P.Line (5 + row)) ≡ rows w h 5 text
  rowed_fault e n l = rows-fault w (h - row) (5 + row) t (sym e ∙ not-true _ n) (omega arith) ∙ g.left

  rowed_all : h ≤ row → choose (eqb (length t) 0) (Ok tt) (refuse_at 12 (P.Line (5 + row))) ≡ rows w h 5 text
  unfolding rows
  rowed_all l = (let n : h - row ≡ 0 = omega arith in rw n) ∙ g.left

  module _ {b : Bool} (l : h ≤ row) (e : b ≡ eqb (length t) 0) where
    pub rowed_done : b ≡ true → Ok tt ≡ rows w h 5 text
    rowed_done n = rw (sym e ∙ n) at (rowed_all l)

    pub rowed_over : b ≡ false → refuse_at 12 (P.Line (5 + h)) ≡ rows w h 5 text
    rowed_over n = let k : row ≡ h = omega (arith, g.most) in rw k at (rw (sym e ∙ n) at (rowed_all l))

-- The cells of one row, and of one row more.
-- one letter more of a row is stored
pub stored_more : (ls part₀ : List ℕ) {part : List ℕ} (i : ℕ) {v : ℕ} → part ≡ map byte_of (take i ls) ++ drop i part₀ → v ≡ byte_of (get_or ls i 0) → i < length ls → length part₀ ≡ length ls
    → set part i v ≡ map byte_of (take (i + 1) ls) ++ drop (i + 1) part₀
stored_more ls part₀ i {v} so_far e l m =
    let b : i < length part₀ = omega arith in
    let n : length (map byte_of (take i ls)) ≡ i = length-map (take i ls) byte_of ∙ length-take-le i ls (omega arith) in
    let put = set_at (map byte_of (take i ls)) (get_or part₀ i 0) (drop (suc i) part₀) v i n in
    rw (so_far, add-one, take-suc ls i 0, map-append byte_of (take i ls) (get_or ls i 0 ∷ []), append_assoc, drop-cons part₀ i 0, put, e)

cells_more : (w n : ℕ) (t : List ℕ) → cells_of w (suc n) t ≡ cells_of w n t ++ map byte_of (take w (drop (n * (w + 1)) t))
unfolding cells_of
cells_more w zero t = let z : 0 * (w + 1) ≡ 0 = omega arith in rw z (append-nil (map byte_of (take w t)))
cells_more w (suc n) t =
    let z : suc n * (w + 1) ≡ suc w + n * (w + 1) = omega arith in
    let e : drop (n * (w + 1)) (drop (suc w) t) ≡ drop (suc n * (w + 1)) t = drop-drop (n * (w + 1)) (suc w) t ∙ ap (λ (k : ℕ). drop k t) (sym z) in
    rw (cells_more w n (drop (suc w) t), e, append_assoc)

-- What an accepted header has shown, line by line.
pub record Headed (text : List ℕ) : Type 0 where
  pub typed : begins type_and_height text ≡ true
  pub high : 1 ≤ height_in text
  pub worded : begins and_width (after_height text) ≡ true
  pub wide : 1 ≤ width_in text
  pub mapped : begins and_map (after_width text) ≡ true

pub header_judges : (text : List ℕ) → Judges (header text) 11 (Headed text)
unfolding header
header_judges text =
    unless_judges _ 11
    (told
    (and_tells (and_tells (and_tells (and_tells (is_tells (begins type_and_height text)) (le_tells 1 (height_in text))) (is_tells (begins and_width (after_height text)))) (le_tells 1 (width_in text)))
    (is_tells (begins and_map (after_width text))))
    (λ h. record { typed = h.0.0.0.0; high = h.0.0.0.1; worded = h.0.0.1; wide = h.0.1; mapped = h.1 })
    (λ h. ((((h.typed, h.high), h.worded), h.wide), h.mapped)))

-- The sizes and the rests of the text, from one line to the next.
pub past_size : (k : ℕ) (u : List ℕ) {t s rest : List ℕ} {n : ℕ} → t ≡ u → s ≡ drop k t → Stands s n rest → (n ≡ size_in (drop k u)) × (rest ≡ drop (k + size_bytes (size_in (drop k u))) u)
past_size k u {t} {s} e d S =
    let f : s ≡ drop k u = d ∙ ap (drop k) e in
    let z = S.size ∙ ap size_in f in
    (z, S.past ∙ ap (λ (m : ℕ). drop (size_bytes m) s) z ∙ ap (drop (size_bytes (size_in (drop k u)))) f ∙ drop-drop (size_bytes (size_in (drop k u))) k u)

-- The public call, by what the header, the room and the rows say.
pub header_refused : (text buffer : List ℕ) → header text ≡ refuse_at 11 P.Nowhere → Reads (read_floor text buffer) (Err (record { number = 11; place = P.Nowhere })) buffer
unfolding read_floor floor_verdict
header_refused text buffer e = rw e (record { answer = refl; buffer = refl })

module _ {text : List ℕ} (buffer : List ℕ) {w h : ℕ} {after : List ℕ} (s : Sound text w h after) where
  pub no_room : length buffer < w * h → Reads (read_floor text buffer) (Err (record { number = 2; place = P.Nowhere })) buffer
  unfolding read_floor floor_verdict
  no_room l =
      let z = rw (s.width, s.height) at l in
      rw (s.accepted, lt-leb (width_in text * height_in text) (length buffer) z) (record { answer = refl; buffer = refl })

  module _ (l : w * h ≤ length buffer) where
    abbrev roomy : leb (width_in text * height_in text) (length buffer) ≡ true
    roomy = le-leb (width_in text * height_in text) (length buffer) (rw (s.width, s.height) at l)

    pub rows-refused : (r : Refusal) → rows w h 5 after ≡ Err r → Reads (read_floor text buffer) (Err r) buffer
    unfolding read_floor floor_verdict
    rows-refused r e =
        let z = rw (s.past, s.width, s.height) at e in
        rw (s.accepted, roomy, z) (record { answer = refl; buffer = refl })

    pub rows-read : {buffer' : List ℕ} → rows w h 5 after ≡ Ok tt → buffer' ≡ cells_of w h after ++ drop (w * h) buffer → Reads (read_floor text buffer) (read_sizes w h) buffer'
    unfolding read_floor floor_verdict
    rows-read e k =
        let z = rw (s.past, s.width, s.height) at e in
        let y = rw (s.past, s.width, s.height) at k in
        rw (s.accepted, roomy, z) (record { answer = λ i. says_floor_read (read_sizes (s.width i) (s.height i)); buffer = y })

-- The rows stored so far, and what one row more does.
pub record Filled (w h : ℕ) (text out₀ t out : List ℕ) (row : ℕ) : Type 0 where
  pub most : row ≤ h
  pub room : w * h ≤ length out₀
  pub long : h * (w + 1) ≤ length text
  pub same : length out ≡ length out₀
  pub left : t ≡ drop (row * (w + 1)) text
  pub so_far : out ≡ cells_of w row text ++ drop (row * w) out₀

pub filled : {w h : ℕ} {text out : List ℕ} → (w * h ≤ length out) × (h * (w + 1) ≤ length text) → Filled w h text out text out 0
unfolding cells_of
filled {w} l = record {
  most = omega arith;
  room = l.0;
  long = l.1;
  same = refl;
  left = let z : 0 * (w + 1) ≡ 0 = omega arith in rw z;
  so_far = let z : 0 * w ≡ 0 = omega arith in rw z;
}

module _ {w h : ℕ} {text out₀ t out : List ℕ} {row : ℕ} (g : Filled w h text out₀ t out row) where
  -- a row is left to read, and room for its cells
  pub row_space : row < h → row * w + w ≤ length out
  row_space l = let a : (row + 1) * w ≤ h * w = mul-le-mul_right {m = row + 1} {n = h} w (omega arith) in omega (arith, g.room, g.same)

  pub row-text : row < h → w + 1 ≤ length t
  row-text l =
      let b : (row + 1) * (w + 1) ≤ h * (w + 1) = mul-le-mul_right {m = row + 1} {n = h} (w + 1) (omega arith) in
      let d : length t ≡ length text - row * (w + 1) = ap length g.left ∙ length-drop (row * (w + 1)) text in
      omega (arith, g.long)

  pub row_cut : row < h → w ≡ length (take w t)
  row_cut l = sym (length-take-le w t (omega (arith, row-text l)))

  pub row-cells : row < h → length (take (row * w + w - row * w) (drop (row * w) out)) ≡ length (take w t)
  row-cells l = simp (length-take, length-drop) (omega (arith, row_space l, row-text l))

  pub filled_more : {zs : List ℕ} → zs ≡ map byte_of (take w t) → row < h
      → Filled w h text out₀ (take (length t - (w + 1)) (drop (w + 1) t)) (take (row * w) out ++ (zs ++ drop (row * w + w - row * w) (drop (row * w) out))) (row + 1)
  filled_more {zs} e l =
      let r = row_space l in
      let a : row * (w + 1) ≤ length text = omega (arith, mul-le-mul_right (w + 1) g.most, g.long) in
      let n : length (cells_of w row text) ≡ row * w = length-cells w row text a in
      let k : row * w + w - row * w ≡ w = omega arith in
      let z : (row + 1) * w ≡ row * w + w = omega arith in
      let y : (row + 1) * (w + 1) ≡ row * (w + 1) + (w + 1) = omega arith in
      let d : drop w (drop (row * w) out) ≡ drop (row * w + w) out₀ =
      ap (drop w) (ap (drop (row * w)) g.so_far ∙ drop_at (cells_of w row text) (drop (row * w) out₀) (row * w) n) ∙ drop-drop w (row * w) out₀ in
      let f : take (row * w) out ≡ cells_of w row text = ap (take (row * w)) g.so_far ∙ take_at (cells_of w row text) (drop (row * w) out₀) (row * w) n in
      let s : take (row * w) out ++ (zs ++ drop (row * w + w - row * w) (drop (row * w) out)) ≡ cells_of w (row + 1) text ++ drop ((row + 1) * w) out₀ =
      rw (k, d, f, z, e, g.left, add-one row, cells_more w row text, append_assoc) in
      record {
        most = omega arith;
        room = g.room;
        long = g.long;
        same =
            let b : (row + 1) * (w + 1) ≤ length text = let z : row + 1 ≤ h = omega arith in omega (arith, mul-le-mul_right (w + 1) z, g.long) in
            let m : length (cells_of w (row + 1) text) ≡ (row + 1) * w = length-cells w (row + 1) text b in
            let q : length (drop ((row + 1) * w) out₀) ≡ length out₀ - (row + 1) * w = length-drop ((row + 1) * w) out₀ in
            rw s (rw length-append (omega (arith, g.same)));
        left = rest (w + 1) t ∙ (ap (drop (w + 1)) g.left ∙ drop-drop (w + 1) (row * (w + 1)) text ∙ ap (λ (j : ℕ). drop j text) (sym y));
        so_far = s;
      }

  pub filled_all : h ≤ row → out ≡ cells_of w h text ++ drop (w * h) out₀
  filled_all l =
      let e : row ≡ h = omega (arith, g.most) in
      let z : w * h ≡ h * w = mul_comm w h in
      rw z (rw e at g.so_far)
