-- A line with its depth, by how many numbers are given: two become three by two bytes more, and any other line stays. Assumes nothing.
use Prim.Native.Nat.{ℕ, ◌+◌, ◌-◌, ◌≤◌, ◌<◌}
use mathlib.Core.Path.{◌≡◌, refl, sym, ap, ap₂, ◌∙◌}
use mathlib.Core.List.{List, [], ◌∷◌, ◌++◌}
use native.Mathlib.Nat.{zero-add}
use native.Mathlib.Decide.{ℕ_discrete}
use native.Mathlib.Omega.{arith}
use mathlib.Core.Bool.{Bool, true, false}
use borrow.Author.Tests.{le-leb, lt-leb, leb-true, leb-false, eq-eqb, ne_eqb}
use lib.Dec.{eqb, leb}
use lib.ListN.{length, take, drop, length-append, length-drop}
use lib.Seq.{length-take-le, sets, sets-eq}
use Rattle.answers.specs.declared.Place.TheVariants as P
use Rattle.std.specs.Prelude.{Ok, Err, IfNone, IfSome}
use Rattle.std.specs.Bool.{then_some}
use Rattle.model.specs.Basics.{choose}
use Rattle.model.specs.Line.{after_line, read_line_by, default_depth, settings_of, decimal_in}
use Rattle.model.specs.KeepDepth.{is_asked, given_of, numbers_first, numbers_given, with_old_depth, depth_verdict, with_depth}
use Rattle.model.specs.Writing.{Writes}
use Rattle.model.proofs.Accepted.{then_refused, then_next, same_told, le_tells}
use Rattle.model.proofs.Cut.{asks_of}
use Rattle.model.proofs.LineForm.{first_none, given_none, given_left, form_judges, formed-ended}
use Rattle.model.proofs.Writings.{room_judges, writes_refused, writes_done}
use Rattle.notation.specs.Printing.{Printed}
use Rattle.notation.specs.declared.print.Printer.{Printer}
use Rattle.notation.specs.Prints.{Prints}
use Rattle.notation.proofs.Prints.{prints_then}
use Rattle.line.specs.declared.Word.{Word}
use Rattle.line.specs.declared.depth.First.{First}
use Rattle.line.specs.Reading.{NoNumbers, IsWord}
use Rattle.line.specs.Depths.{NoLine, FirstLine, Gives}
use Rattle.line.proofs.Laws.{Scanning, scanning, scanned_none, scanned_bad, scanned_last, scanning_more}

-- a line of the form has its LF at least
pub line-long : (line : List ℕ) → 1 ≤ numbers_given line → 1 ≤ length line
line-long line h = let l = formed-ended line h in omega (arith, ap length l.is, length-append l.body (10 ∷ []))

-- a line of two numbers: all of it but its LF, and how long it is with its depth
pub record TwoLong (line : List ℕ) : Type 0 where
  pub some : 1 ≤ length line
  pub body : length (take (length line - 1) line) ≡ length line - 1
  pub whole : length (with_old_depth line) ≡ length line + 2

-- a line with its depth, how long it is then, and whether there is room for it
module _ (line : List ℕ) (given : ℕ) (e : given ≡ numbers_given line) where
  module _ (t : given ≡ 2) where
    two_become : with_old_depth line ≡ take (length line - 1) line ++ 32 ∷ 49 ∷ 10 ∷ []
    unfolding with_old_depth decimal_in
    two_become = rw (eq-eqb (numbers_given line) 2 (sym e ∙ t), with_old_depth)

    pub two_long : TwoLong line
    two_long =
        let l : 1 ≤ length line = line-long line (omega arith) in
        let b : length (take (length line - 1) line) ≡ length line - 1 = length-take-le (length line - 1) line (omega arith) in
        record { some = l; body = b; whole = omega (arith, ap length two_become, length-append (take (length line - 1) line) (32 ∷ 49 ∷ 10 ∷ [])) }

    pub two_room : (room : ℕ) → length line ≤ room → leb 2 (room - length line) ≡ leb (length (with_old_depth line)) room
    two_room room h = let z = two_long.whole in same_told (le_tells 2 (room - length line)) (le_tells (length (with_old_depth line)) room) (λ k. omega arith) (λ k. omega arith)

    -- two become three by what is printed after all but the LF
    pub two_printed : {p m e : Printer} → Prints p (take (length line - 1) line) m → Prints m (32 ∷ 49 ∷ 10 ∷ []) e → Prints p (with_old_depth line) e
    two_printed P Q = rw two_become (prints_then P Q)

  module _ (t : given ≡ 2 → ⊥) where
    others-stay : with_old_depth line ≡ line
    unfolding with_old_depth
    others-stay = rw (ne_eqb (numbers_given line) 2 (λ z. t (e ∙ z)), with_old_depth)

    pub others-long : length (with_old_depth line) ≡ length line
    others-long = ap length others-stay

    pub others-room : (room : ℕ) → length line ≤ room → true ≡ leb (length (with_old_depth line)) room
    others-room room h = sym (le-leb (length (with_old_depth line)) room (omega (arith, others-long)))

    pub others-printed : {p e : Printer} → Prints p line e → Prints p (with_old_depth line) e
    others-printed P = rw others-stay P

  pub no_room : (room : ℕ) → room < length line → false ≡ leb (length (with_old_depth line)) room
  no_room room h = sym (lt-leb (length (with_old_depth line)) room (by (ℕ_discrete given 2)))
    where
      by : Dec (given ≡ 2) → room < length (with_old_depth line)
      by (yes t) = omega (arith, two_long t)
      by (no t) = omega (arith, others-long t)

-- the numbers of the line from a place on, counted while they are read
pub record Counting (bytes : List ℕ) (from count i : ℕ) : Type 0 where
  pub numbers : List ℕ
  pub scanning : Scanning bytes from numbers i
  pub many : length numbers ≡ count
  -- each has a byte at least
  pub few : count ≤ i

pub counting : (bytes : List ℕ) (from : ℕ) → from ≤ length bytes → Counting bytes from 0 from
counting bytes from h = record { numbers = []; scanning = scanning bytes from h; many = refl; few = omega arith }

-- a malformed line
none_first : (bytes : List ℕ) (from : ℕ) → NoNumbers bytes from → NoLine bytes from
unfolding read_line_by
none_first bytes from e = first_none (drop from bytes) (ap (asks_of default_depth) e)

module _ {bytes : List ℕ} {from count i : ℕ} (g : Counting bytes from count i) where
  pub first_unended : length bytes ≤ i → NoLine bytes from
  first_unended h = none_first bytes from (scanned_none from g.scanning h)

  pub first_no_word : NoNumbers bytes i → NoLine bytes from
  first_no_word e = none_first bytes from (scanned_bad from g.scanning e)

  -- one number more, the last or one with others after it
  module _ {w : Word} (W : IsWord bytes i w) where
    one_more : length (g.numbers ++ w.value ∷ []) ≡ count + 1
    one_more = length-append g.numbers (w.value ∷ []) ∙ ap (λ (k : ℕ). k + 1) g.many

    module _ (l : w.last ≡ true) {b : Bool} (f : (ns : List ℕ) → length ns ≡ count + 1 → b ≡ is_asked (settings_of ns)) where
      counted : numbers_first (drop from bytes) ≡ choose b (count + 1) 0
      unfolding numbers_first
      counted =
          let all : List ℕ = g.numbers ++ w.value ∷ [] in
          ap given_of (scanned_last from g.scanning W l).0 ∙ ap₂ (λ (t : Bool) (k : ℕ). choose t k 0) (sym (f all one_more)) one_more

      abbrev pub ends : First
      ends = record { given = count + 1; end = w.next }

      pub first_ends : IfNone (then_some b ends) (NoLine bytes from) × IfSome (then_some b ends) (FirstLine bytes from)
      first_ends = by b refl
        where
          by : (t : Bool) → b ≡ t → IfNone (then_some t ends) (NoLine bytes from) × IfSome (then_some t ends) (FirstLine bytes from)
          by false e = (counted ∙ ap (λ (t : Bool). choose t (count + 1) 0) e, tt)
          by true e = (
            tt,
            record {
              count = sym (counted ∙ ap (λ (t : Bool). choose t (count + 1) 0) e);
              some = omega arith;
              ended = ((scanned_last from g.scanning W l).1, omega (arith, g.scanning.past, W.on.0), W.on.1);
            },
          )

    pub counting_more : w.last ≡ false → Counting bytes from (count + 1) w.next
    counting_more l = record { numbers = g.numbers ++ w.value ∷ []; scanning = scanning_more from g.scanning W l; many = one_more; few = omega (arith, g.few, W.on.0) }

-- how many numbers a line by itself has
pub given_bad : (line : List ℕ) → NoLine line 0 → numbers_given line ≡ 0
given_bad line z = given_none line z

module _ {line : List ℕ} {f : First} (F : FirstLine line 0 f) where
  left : length (after_line line) ≡ length line - f.end
  left = ap length (sym F.ended.0) ∙ length-drop f.end line

  pub given_after : f.end < length line → numbers_given line ≡ 0
  given_after h = given_left line (omega (arith, left))

  pub given_whole : length line ≤ f.end → Gives line f.given
  unfolding numbers_given
  given_whole h = record {
    count = F.count ∙ (let z : eqb (length (after_line line)) 0 ≡ true = eq-eqb (length (after_line line)) 0 (omega (arith, left)) in rw (z, numbers_given));
    some = F.some;
  }

-- bytes printed from the first place on, and what stands after them
printed_first : (buffer bytes after : List ℕ) (end : ℕ) → length bytes ≤ length buffer → Printed buffer 0 bytes after end → (end ≡ length bytes) × (after ≡ bytes ++ drop (length bytes) buffer)
printed_first buffer bytes after end h p = (omega (arith, p.next), p.written ∙ sets-eq bytes buffer 0 (omega arith) ∙ ap (λ (k : ℕ). bytes ++ drop k buffer) (zero-add (length bytes)))

-- what one line is refused by, and when it is written
module _ (line buffer : List ℕ) where
  pub depth-malformed : numbers_given line ≡ 0 → Writes (with_depth line buffer) (Err (record { number = 3; place = P.Nowhere })) buffer
  unfolding with_depth depth_verdict
  depth-malformed z = writes_refused _ _ (sym (then_refused _ ((form_judges line).refused (λ h. omega arith)))) _ refl

  module _ {given : ℕ} (G : Gives line given) where
    formed : 1 ≤ numbers_given line
    formed = omega (arith, G.count, G.some)

    pub depth_no_room : false ≡ leb (length (with_old_depth line)) (length buffer) → Writes (with_depth line buffer) (Err (record { number = 17; place = P.Nowhere })) buffer
    unfolding with_depth depth_verdict
    depth_no_room t =
        let small : length buffer < length (with_old_depth line) = leb-false _ _ (sym t) in
        writes_refused _ _ (sym (then_next _ ((form_judges line).done formed) ∙ (room_judges _ _).refused (λ l. omega arith))) _ refl

    pub depth-done : true ≡ leb (length (with_old_depth line)) (length buffer) → {p e : Printer} → Prints p (with_old_depth line) e → p.out.now ≡ buffer → p.at ≡ 0
        → {after : List ℕ} → after ≡ e.out.now → Writes (with_depth line buffer) (Ok e.at) after
    unfolding with_depth depth_verdict
    depth-done t {p} {e} P b z a =
        let fits : length (with_old_depth line) ≤ length buffer = leb-true _ _ (sym t) in
        let printed : Printed buffer 0 (with_old_depth line) e.out.now e.at =
        record { written = P.printed.written ∙ ap₂ (λ l k. sets l k (with_old_depth line)) b z; next = P.printed.next ∙ ap (λ k. k + length (with_old_depth line)) z } in
        let whole = printed_first _ _ _ _ fits printed in
        writes_done _ _ (sym (then_next _ ((form_judges line).done formed) ∙ (room_judges _ _).done fits)) _ _ refl whole.0 (a ∙ whole.1)
