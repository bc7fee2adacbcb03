-- The lines of a part: the one from a place on, that it is a line, and what is told of the part once it is copied, whatever follows. Assumes nothing.
use Prim.Native.Nat.{ℕ, suc, ◌+◌, ◌-◌, ◌*◌, ◌≤◌}
use mathlib.Core.Path.{◌≡◌, refl, sym, ap, ap₂, subst, ◌∙◌}
use mathlib.Core.Bool.{Bool, true, false}
use borrow.Author.Tests.{eq-eqb, eqb-true}
use lib.Dec.{eqb}
use Rattle.std.specs.Prelude.{Ok, Err}
use Rattle.std.specs.List.{IsAnyAnswer}
use mathlib.Core.List.{List, [], ◌∷◌, ◌++◌, append_assoc, append-nil}
use native.Mathlib.Decide.{ℕ_discrete}
use native.Mathlib.Numerals.{add-one}
use native.Mathlib.Omega.{arith}
use lib.ListN.{length, get_or, take, drop, length-drop, length-append}
use lib.Seq.{take_at, length-take-le, drop-drop}
use Rattle.answers.specs.declared.Place.TheVariants as P
use Rattle.model.specs.Basics.{refuse_at}
use Rattle.model.specs.FloorText.{LF}
use Rattle.model.specs.Line.{after_line}
use Rattle.model.specs.KeepDepth.{numbers_first, numbers_given, with_old_depth, Unended, lines_of, Copied, ahead, copy_lines}
use Rattle.model.proofs.Accepted.{never}
use Rattle.model.proofs.LineForm.{Ended, ended, Parted, no_end, at_end_lem, parted, after_line_lem, line_first, given_first, first_unended, form_judges}
use Rattle.model.proofs.Parts.{rest}
use Rattle.line.proofs.Depths.{two_long, others-long}
use Rattle.model.proofs.CopiedLines.{stopped, line-goes, line_stops}
use Rattle.notation.specs.declared.print.Printer.{Printer}
use Rattle.notation.specs.Prints.{Prints, HasRoom}
use Rattle.notation.proofs.Decimals.{printed_front}
use Rattle.notation.proofs.Prints.{same_length}
use Rattle.line.specs.declared.depth.First.{First}
use Rattle.line.specs.Depths.{NoLine, FirstLine, Gives}
use Rattle.keep_depth.specs.Lines.{Fits, Copies}

-- whether an LF stands among some bytes
pub line_ends : (bytes : List ℕ) (r : Bool) → IsAnyAnswer (λ y b. eqb y LF ≡ b) bytes r → (r ≡ true → Unended bytes → ⊥) × (r ≡ false → Unended bytes)
line_ends bytes true (k, l, e) = (λ _ u. u k l (eqb-true (get_or bytes k 0) LF (e 0)), λ f. absurd (never refl f))
line_ends bytes false all = (λ t. absurd (never t refl), λ _ k l e. absurd (never (eq-eqb (get_or bytes k 0) LF e) (all k 0 (omega arith) l)))

-- ---- the line from a place on

-- up to its LF, and what stands behind it
record Next (bytes : List ℕ) (at : ℕ) (line rest : List ℕ) : Type 0 where
  pub ended : Ended line
  pub parts : drop at bytes ≡ line ++ rest
  pub form : numbers_given line ≡ numbers_first (drop at bytes)

next : (bytes : List ℕ) (at : ℕ) (body rest : List ℕ) → Unended body → drop at bytes ≡ body ++ LF ∷ rest → Next bytes at (body ++ LF ∷ []) rest
next bytes at body rest u e =
    let l = ended body u in
    let p : drop at bytes ≡ (body ++ LF ∷ []) ++ rest = e ∙ sym (append_assoc body (LF ∷ []) rest) in
    record { ended = l; parts = p; form = given_first (body ++ LF ∷ []) l ∙ sym (line_first (body ++ LF ∷ []) l rest) ∙ ap numbers_first (sym p) }

-- a malformed one: whatever follows, it is told by its number
stops_at : (bytes : List ℕ) (at : ℕ) → NoLine bytes at → (Unended (drop at bytes) → ⊥) → (line : ℕ) (more : List ℕ) → copy_lines line (lines_of (drop at bytes ++ more)) ≡ stopped line
stops_at bytes at z some line more = by (parted (drop at bytes))
  where
    by : Parted (drop at bytes) → copy_lines line (lines_of (drop at bytes ++ more)) ≡ stopped line
    by (no_end u) = absurd (some u)
    by (at_end_lem body rest u e) =
        let n = next bytes at body rest u e in
        ap (λ (l : List ℕ). copy_lines line (lines_of l)) (ap (λ (l : List ℕ). l ++ more) n.parts ∙ append_assoc (body ++ LF ∷ []) rest more)
        ∙ line_stops line (body ++ LF ∷ []) (rest ++ more) n.ended ((form_judges (body ++ LF ∷ [])).refused (λ h. omega (arith, n.form, z)))

-- one of the form
module _ {bytes : List ℕ} {at : ℕ} {f : First} (F : FirstLine bytes at f) where
  abbrev pub line_here : List ℕ
  line_here = take (f.end - at) (drop at bytes)

  after_it : drop f.end bytes ≡ drop (f.end - at) (drop at bytes)
  after_it = let z : at + (f.end - at) ≡ f.end = omega (arith, F.ended.1) in sym (drop-drop (f.end - at) at bytes ∙ ap (λ (k : ℕ). drop k bytes) z)

  line_here_lem : Next bytes at line_here (drop f.end bytes)
  line_here_lem = by (parted (drop at bytes))
    where
      by : Parted (drop at bytes) → Next bytes at line_here (drop f.end bytes)
      by (no_end u) = absurd (omega (arith, first_unended (drop at bytes) u, F.count, F.some))
      by (at_end_lem body rest u e) =
          let n = next bytes at body rest u e in
          let left : rest ≡ drop f.end bytes = sym (after_line_lem body rest u) ∙ ap after_line (sym e) ∙ sym F.ended.0 in
          let long : length (body ++ LF ∷ []) ≡ f.end - at =
          omega (arith, ap length n.parts, length-append (body ++ LF ∷ []) rest, length-drop at bytes, ap length left, length-drop f.end bytes, F.ended.1, F.ended.2) in
          let line : line_here ≡ body ++ LF ∷ [] = ap (take (f.end - at)) n.parts ∙ take_at (body ++ LF ∷ []) rest (f.end - at) long in
          rw line (subst (λ (r : List ℕ). Next bytes at (body ++ LF ∷ []) r) left n)

  pub line_given : f.given ≡ numbers_given line_here
  line_given = F.count ∙ sym line_here_lem.form

  pub gives : Gives line_here f.given
  gives = record { count = line_given; some = F.some }

  pub line-bytes : length line_here ≡ f.end - at
  line-bytes = length-take-le (f.end - at) (drop at bytes) (omega (arith, length-drop at bytes, F.ended.2))

  pub goes_past : (line : ℕ) (more : List ℕ) → copy_lines line (lines_of (drop at bytes ++ more)) ≡ ahead (with_old_depth line_here) (copy_lines (suc line) (lines_of (drop f.end bytes ++ more)))
  goes_past line more =
      ap (λ (l : List ℕ). copy_lines line (lines_of l)) (ap (λ (l : List ℕ). l ++ more) line_here_lem.parts ∙ append_assoc line_here (drop f.end bytes) more)
      ∙ line-goes line line_here (drop f.end bytes ++ more) line_here_lem.ended ((form_judges line_here).done (omega (arith, line_given, F.some)))

depth_few : (line : List ℕ) → length (with_old_depth line) ≤ length line + 2
depth_few line = by (ℕ_discrete (numbers_given line) 2)
  where
    by : Dec (numbers_given line ≡ 2) → length (with_old_depth line) ≤ length line + 2
    by (yes e) = omega (arith, (two_long line _ refl e).whole)
    by (no e) = omega (arith, others-long line _ refl e)

-- ---- a part, line by line

pub ahead-ahead : (xs ys : List ℕ) (c : Copied) → ahead xs (ahead ys c) ≡ ahead (xs ++ ys) c
ahead-ahead xs ys c = ap (λ (w : List ℕ). record { written = w; verdict = c.verdict }) (sym (append_assoc xs ys c.written))

pub ahead-stopped : (xs : List ℕ) (line : ℕ) → ahead xs (stopped line) ≡ record { written = xs; verdict = refuse_at 3 (P.Line line) }
ahead-stopped xs line = ap (λ (w : List ℕ). record { written = w; verdict = refuse_at 3 (P.Line line) }) (append-nil xs)

-- so far the part is copied, up to the line that begins at `done`
pub record Going (bytes : List ℕ) (first : ℕ) (out : List ℕ) (p : Printer) (line done : ℕ) : Type 0 where
  pub within : done ≤ length bytes
  -- a line has one byte at least and gets two more at most
  pub few : p.at ≤ 3 * done
  pub counted : line ≤ first + done
  pub same : length p.out.now ≡ length out
  -- whatever follows, what is told of the whole is what is written and then what is told of the bytes that are left
  pub told : (rest : List ℕ) → copy_lines first (lines_of (bytes ++ rest)) ≡ ahead (take p.at p.out.now) (copy_lines line (lines_of (drop done bytes ++ rest)))

module _ {bytes : List ℕ} {first : ℕ} {out : List ℕ} {p : Printer} {line done : ℕ} (F : Fits bytes first out) (g : Going bytes first out p line done) where
  -- no line from here on: one that has no LF yet
  pub going_ends : {r : Bool} → IsAnyAnswer (λ y b. eqb y LF ≡ b) (drop done bytes) r → r ≡ false
      → {out' : List ℕ} → out' ≡ p.out.now → Copies bytes first (record { wrote = p.at; line = line; done = Ok done }) out'
  going_ends {r} a e s = rw s (record {
    room = omega (arith, g.few, g.within, g.same, F.room);
    counted = omega (arith, g.counted, g.within);
    goes = record { within = g.within; counted = g.counted; unended = (line_ends (drop done bytes) r a).1 e; told = g.told };
    stopped = tt;
  })

  -- or a malformed one
  pub going_stops : NoLine bytes done → {r : Bool} → IsAnyAnswer (λ y b. eqb y LF ≡ b) (drop done bytes) r → r ≡ true
      → {out' : List ℕ} → out' ≡ p.out.now → Copies bytes first (record { wrote = p.at; line = line; done = Err done }) out'
  going_stops z {r} a e s = rw s (record {
    room = omega (arith, g.few, g.within, g.same, F.room);
    counted = omega (arith, g.counted, g.within);
    goes = tt;
    stopped = record {
      within = g.within;
      counted = g.counted;
      told = λ rest.
          g.told rest ∙ ap (ahead (take p.at p.out.now)) (stops_at bytes done z ((line_ends (drop done bytes) r a).0 e) line rest) ∙ ahead-stopped (take p.at p.out.now) line;
    };
  })

  module _ {f : First} (L : FirstLine bytes done f) where
    -- there is room for the next line
    pub room_more : HasRoom p (length (with_old_depth (line_here L)))
    room_more = omega (arith, depth_few (line_here L), line-bytes L, L.ended.1, L.ended.2, g.few, g.same, F.room)

    -- one line more
    pub going_more : {e : Printer} → Prints p (with_old_depth (line_here L)) e → Going bytes first out e (line + 1) f.end
    going_more {e} P = record {
      within = L.ended.2;
      few = omega (arith, P.printed.next, depth_few (line_here L), line-bytes L, L.ended.1, g.few);
      counted = omega (arith, g.counted, L.ended.1);
      same = same_length P ∙ g.same;
      told = λ rest.
          let left = lines_of (drop f.end bytes ++ rest) in
          g.told rest
          ∙ ap (ahead (take p.at p.out.now)) (goes_past L line rest)
          ∙ ahead-ahead (take p.at p.out.now) (with_old_depth (line_here L)) (copy_lines (suc line) left)
          ∙ ap₂ (λ (w : List ℕ) (k : ℕ). ahead w (copy_lines k left)) (sym (printed_front (with_old_depth (line_here L)) P.printed room_more)) (sym (add-one line));
    }
