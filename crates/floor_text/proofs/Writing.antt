-- Where the writer's loops stand: letters put so far, and rows that are left. And the writer's answer.
use mathlib.Core.Path.{◌≡◌, refl, sym, ◌∙◌, ap, subst}
use mathlib.Core.List.{List, [], ◌∷◌, ◌++◌, map, append_assoc, append-nil}
use Prim.Native.Nat.{ℕ, zero, suc, ◌+◌, ◌-◌, ◌*◌, ◌≤◌, ◌<◌}
use native.Mathlib.Numerals.{add-one}
use native.Mathlib.Omega.{arith}
use lib.ListN.{length, take, get_or, length-append, length-map}
use lib.Seq.{take-suc, take_all, take_at, drop_at, length-take-le}
use Rattle.std.proofs.lemmas.List.{map-append}
use Rattle.answers.specs.declared.Refusal.{Refusal}
use Rattle.std.specs.Prelude.{Ok, Err}
use Rattle.model.specs.Floor.{Floor, Sized}
use Rattle.model.specs.FloorText.{LF, and_width, and_map, type_and_height}
use Rattle.model.specs.FloorWritten.{letter_of, rows_of, size_line, text_of, text_verdict, write_floor}
use Rattle.model.specs.Writing.{Writes}
use Rattle.model.proofs.FloorTexts.{text-gives}
use Rattle.model.proofs.Writings.{writes_refused, writes_done}
use Rattle.notation.specs.Prints.{Prints, HasRoom}
use Rattle.notation.specs.declared.print.Printer.{Printer}
use Rattle.notation.proofs.Prints.{prints_then, prints_whole, room_left}
use Rattle.floor_text.specs.Heads.{head_of}

-- letters of a row, put so far
pub record Lettering (p₀ : Printer) (cells : List ℕ) (p : Printer) (i : ℕ) : Type 0 where
  -- i of them, and no more than the row has
  pub most : i ≤ length cells
  pub printed : Prints p₀ (map letter_of (take i cells)) p

module _ {p₀ p : Printer} {cells : List ℕ} {i : ℕ} (g : Lettering p₀ cells p i) where
  abbrev so_many : length (map letter_of (take i cells)) ≡ i
  so_many = length-map (take i cells) letter_of ∙ length-take-le i cells g.most

  pub letter_room : HasRoom p₀ (length cells + 1) → HasRoom p 1
  letter_room h = room_left g.printed _ 1 h (omega (arith, so_many, g.most))

  pub lettering_more : {q : Printer} {v : ℕ} → v ≡ letter_of (get_or cells i 0) → i < length cells → Prints p (v ∷ []) q → Lettering p₀ cells q (i + 1)
  lettering_more {q} {v} e h P =
      let one : map letter_of (take i cells) ++ v ∷ [] ≡ map letter_of (take (i + 1) cells) = rw (e, add-one, take-suc cells i 0, map-append) refl in
      record { most = omega arith; printed = subst (λ xs. Prints p₀ xs q) one (prints_then g.printed P) }

  -- all of them
  pub lettered : length cells ≤ i → Prints p₀ (map letter_of cells) p
  lettered h = subst (λ xs. Prints p₀ (map letter_of xs) p) (take_all i cells h) g.printed

-- rows of a floor, put so far; t is what is left of its bytes
pub record Rowing (p₀ : Printer) (w h : ℕ) (bytes : List ℕ) (p : Printer) (t : List ℕ) : Type 0 where
  -- so many rows are left, with their cells and room for them
  pub left : ℕ
  pub cells : length t ≡ left * w
  pub room : HasRoom p (length (rows_of w left t))
  -- those that are put and those that are left make the whole
  pub front : List ℕ
  pub printed : Prints p₀ front p
  pub whole : front ++ rows_of w left t ≡ rows_of w h bytes

module _ {p₀ p : Printer} {w h : ℕ} {bytes t : List ℕ} (g : Rowing p₀ w h bytes p t) (l : 1 ≤ w) where
  -- a row and what is left after it
  module _ (x t' : List ℕ) (e : t ≡ x ++ t') (n : length x ≡ w) where
    abbrev lengths : length t ≡ w + length t'
    lengths = ap length e ∙ length-append x t' ∙ omega arith

    one_left : (k : ℕ) → length t ≡ k * w → k ≡ suc (k - 1)
    one_left zero z = absurd (omega (arith, lengths))
    one_left (suc k) z = omega arith

    abbrev others : List ℕ
    others = rows_of w (g.left - 1) t'

    row_and_others : rows_of w g.left t ≡ (map letter_of x ++ LF ∷ []) ++ others
    unfolding rows_of
    row_and_others =
        ap (λ (k : ℕ). rows_of w k t) (one_left g.left g.cells) ∙ ap (rows_of w (suc (g.left - 1))) e ∙ rw (take_at x t' w n, drop_at x t' w n) (sym (append_assoc (map letter_of x) (LF ∷ []) others))

    pub row_room : HasRoom p (length x + 1)
    row_room = omega (arith, g.room, ap length row_and_others, length-append (map letter_of x ++ LF ∷ []) others, length-append (map letter_of x) (LF ∷ []), length-map x letter_of)

    pub rowing_more : {q : Printer} → Prints p (map letter_of x ++ LF ∷ []) q → Rowing p₀ w h bytes q t'
    rowing_more {q} P = record {
      left = g.left - 1;
      cells = let z = one_left g.left g.cells in omega (arith, g.cells, lengths, ap (λ (k : ℕ). k * w) z);
      room = room_left P _ _ g.room (omega (arith, ap length row_and_others, length-append (map letter_of x ++ LF ∷ []) others));
      front = g.front ++ (map letter_of x ++ LF ∷ []);
      printed = prints_then g.printed P;
      whole = append_assoc g.front (map letter_of x ++ LF ∷ []) others ∙ ap (λ ys. g.front ++ ys) (sym row_and_others) ∙ g.whole;
    }

  -- less than a row is left
  pub rowing_all : length t < w → Prints p₀ (rows_of w h bytes) p
  unfolding rows_of
  rowing_all s = subst (λ ys. Prints p₀ ys p) (sym (go g.left g.cells refl) ∙ g.whole) g.printed
    where
      go : (k : ℕ) → length t ≡ k * w → g.left ≡ k → g.front ++ rows_of w g.left t ≡ g.front
      go zero z k = rw k (append-nil g.front)
      go (suc k) z m = absurd (omega (arith, s, z))

-- ---- the answer

pub length_head : (width height : ℕ) → length (head_of width height) ≡ 29 + length (size_line height) + length (size_line width)
length_head width height =
    let h = size_line height in
    let w = size_line width in
    omega (arith, length-append (type_and_height ++ h) ((and_width ++ w) ++ and_map), length-append type_and_height h, length-append (and_width ++ w) and_map, length-append and_width w)

-- header and rows are the whole text
head_then_rows : (f : Floor) → head_of f.width f.height ++ rows_of f.width f.height f.bytes ≡ text_of f
unfolding text_of
head_then_rows f = simp append_assoc

room_for_both : (f : Floor) → length (text_of f) ≡ length (head_of f.width f.height) + length (rows_of f.width f.height f.bytes)
room_for_both f = ap length (sym (head_then_rows f)) ∙ length-append (head_of f.width f.height) (rows_of f.width f.height f.bytes)

-- what an accepted writing has shown: room for the header, and for the rows after it
pub text-fits : (f : Floor) (room : ℕ) → text_verdict f room ≡ Ok tt → Sized f × (length (head_of f.width f.height) + length (rows_of f.width f.height f.bytes) ≤ room)
text-fits f room e = let g = text-gives f room e in (g.0, omega (arith, g.1, room_for_both f))

module _ (f : Floor) (buffer : List ℕ) where
  pub write-refused : (r : Refusal) → text_verdict f (length buffer) ≡ Err r → Writes (write_floor f buffer) (Err r) buffer
  unfolding write_floor
  write-refused r e = writes_refused (text_of f) buffer refl r e

  pub write_done : text_verdict f (length buffer) ≡ Ok tt → {p m e : Printer} → Prints p (head_of f.width f.height) m → Prints m (rows_of f.width f.height f.bytes) e
      → p.out.now ≡ buffer → p.at ≡ 0 → {after : List ℕ} → after ≡ e.out.now → Writes (write_floor f buffer) (Ok e.at) after
  unfolding write_floor
  write_done h P Q b z a =
      let whole = prints_whole (text_of f) (rw (head_then_rows f) at (prints_then P Q)) b z (text-gives f _ h).1 a in
      writes_done (text_of f) buffer refl _ _ h whole.0 whole.1
