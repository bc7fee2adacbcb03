-- One part after another: a part behind what is held of a line, what is left of its last line, and what is told of all that was read. Assumes nothing.
use Prim.Native.Nat.{ℕ, ◌+◌, ◌-◌, ◌*◌, ◌≤◌, ◌<◌}
use mathlib.Core.Path.{◌≡◌, refl, sym, ap, subst, ◌∙◌}
use mathlib.Core.List.{List, [], ◌++◌, append_assoc, append-nil}
use native.Mathlib.Decide.{dec_le}
use native.Mathlib.Omega.{arith}
use lib.ListN.{length, take, drop, length-drop}
use lib.Seq.{length-sets, length-take-le, take_at}
use Rattle.answers.specs.declared.Place.TheVariants as P
use Rattle.std.specs.Prelude.{Option, None, Some, IfSome, Result, Ok, Err}
use Rattle.std.proofs.lemmas.Result.{IfOk-at_ok, IfErr-at_err}
use Rattle.model.specs.Basics.{refuse_at}
use Rattle.model.specs.KeepDepth.{Unended, lines_of, ahead, copy_lines, longest_line, keep_depth}
use Rattle.model.proofs.Parts.{drop-cut}
use Rattle.model.proofs.CopiedLines.{none_left, unended_stops, long_stops}
use Rattle.notation.specs.Printing.{Printed}
use Rattle.notation.specs.declared.print.Printer.{Printer}
use Rattle.notation.specs.Prints.{Prints}
use Rattle.notation.proofs.Decimals.{printed_front}
use Rattle.keep_depth.specs.declared.lines.Reach.{Reach}
use Rattle.keep_depth.specs.declared.Step.{Step}
use Rattle.keep_depth.specs.declared.Fault.{Fault}
use Rattle.keep_depth.specs.declared.Fault.TheVariants as F
use Rattle.keep_depth.specs.Lines.{Goes, Copies}
use Rattle.keep_depth.specs.Parts.{kept_room, Room, Held, Stepped, Taken, Told, Ended}
use Rattle.keep_depth.proofs.Copying.{ahead-ahead, ahead-stopped}

-- ---- a part behind what is held

pub part_printed : {p m : Printer} {part kept : List ℕ} → Prints p part m → kept ≡ m.out.now → Printed p.out.now p.at part kept m.at
part_printed P e = rw e P.printed

module _ {kept : List ℕ} {held : ℕ} {part : List ℕ} {line : ℕ} {out kept₁ : List ℕ} {n : ℕ} (R : Room kept held part line out) (W : Printed kept held part kept₁ n) where
  -- both stand in the list's first places
  within : n ≤ length kept₁
  within = omega (arith, W.next, ap length W.written, length-sets kept held part, R.list, R.piece, R.few)

  both : take n kept₁ ≡ take held kept ++ part
  both = printed_front part W (omega (arith, R.list, R.piece, R.few))

  bytes-long : n ≡ length (take n kept₁)
  bytes-long = sym (length-take-le n kept₁ within)

  then_rest : (rest : List ℕ) → copy_lines line (lines_of (take held kept ++ (part ++ rest))) ≡ copy_lines line (lines_of (take n kept₁ ++ rest))
  then_rest rest = ap (λ (l : List ℕ). copy_lines line (lines_of l)) (sym (append_assoc (take held kept) part rest) ∙ ap (λ (l : List ℕ). l ++ rest) (sym both))

  module _ {c : Reach} {out' : List ℕ} (C : Copies (take n kept₁) line c out') where
    counted : c.line ≤ line + kept_room
    counted = omega (arith, C.counted, bytes-long, W.next, R.piece, R.few)

    -- the next line is malformed, whatever follows
    halts : ((rest : List ℕ) → copy_lines line (lines_of (take n kept₁ ++ rest)) ≡ record { written = take c.wrote out'; verdict = refuse_at 3 (P.Line c.line) }) → (kept' : List ℕ)
        → Stepped kept held part line (record { wrote = c.wrote; line = c.line; held = None }) kept' out'
    halts t kept' = record { room = C.room; counted = counted; goes = tt; stopped = λ rest. then_rest rest ∙ t rest }

    pub stops_here : {done : ℕ} → c.done ≡ Err done → (kept' : List ℕ) → Stepped kept held part line (record { wrote = c.wrote; line = c.line; held = None }) kept' out'
    stops_here e = halts (IfErr-at_err _ e C.stopped).told

    module _ {done : ℕ} (e : c.done ≡ Ok done) where
      goes : Goes (take n kept₁) line c out' done
      goes = IfOk-at_ok _ e C.goes

      left : length (drop done (take n kept₁)) ≡ n - done
      left = length-drop done (take n kept₁) ∙ ap (λ (k : ℕ). k - done) (sym bytes-long)

      -- so much of a line without its LF is malformed
      pub stops_long : longest_line ≤ n - done → (kept' : List ℕ) → Stepped kept held part line (record { wrote = c.wrote; line = c.line; held = None }) kept' out'
      stops_long h = halts (λ rest.
          goes.told rest
          ∙ ap (ahead (take c.wrote out')) (long_stops c.line (drop done (take n kept₁)) rest (omega (arith, left)) goes.unended)
          ∙ ahead-stopped (take c.wrote out') c.line)

      -- less of it is held
      pub goes_on : n - done < longest_line → (kept' : List ℕ) → kept' ≡ take (n - done) (drop done kept₁) ++ drop (n - done) kept₁
          → Stepped kept held part line (record { wrote = c.wrote; line = c.line; held = Some (n - done) }) kept' out'
      goes_on h kept' f =
          let front : take (n - done) kept' ≡ drop done (take n kept₁) =
          ap (take (n - done)) f
          ∙ take_at (take (n - done) (drop done kept₁)) (drop (n - done) kept₁) (n - done) (ap length (sym (drop-cut done n kept₁)) ∙ left)
          ∙ sym (drop-cut done n kept₁) in
          record {
            room = C.room;
            counted = counted;
            goes = record {
              few = h;
              unended = subst Unended (sym front) goes.unended;
              told = λ rest.
                  then_rest rest ∙ goes.told rest ∙ ap (λ (l : List ℕ). ahead (take c.wrote out') (copy_lines c.line (lines_of (l ++ rest)))) (sym front);
            };
            stopped = tt;
          }

-- ---- all that was read

-- what is held of it, and how many lines are counted: at most as many as bytes came in so many turns
pub record Reading (kept : List ℕ) (held line turns : ℕ) : Type 0 where
  pub few : held < longest_line
  pub unended : Unended (take held kept)
  pub counted : line ≤ 1 + kept_room * turns
  pub taken : Taken kept held line

pub reading : (kept : List ℕ) → Reading kept 0 1 0
unfolding keep_depth
reading kept = record { few = omega arith; unended = λ k h e. omega arith; counted = omega arith; taken = ([], [], λ rest. refl) }

module _ {kept : List ℕ} {held line turns : ℕ} (D : Reading kept held line turns) where
  -- the end: all is copied, or a line is left without its LF
  pub all_copied : held ≡ 0 → Told (Ok tt)
  all_copied z =
      let (all, written, t) = D.taken in
      let e : take held kept ++ [] ≡ [] = ap (λ (k : ℕ). take k kept ++ []) z in (
        all,
        written,
        ap keep_depth (sym (append-nil all)) ∙ t [] ∙ ap (λ (l : List ℕ). ahead written (copy_lines line (lines_of l))) e
            ∙ ap (ahead written) (none_left line) ∙ ap (λ (w : List ℕ). record { written = w; verdict = Ok tt }) (append-nil written),
      )

  pub line-left : 1 ≤ held → held ≤ length kept → Told (refuse_at 3 (P.Line line))
  line-left h w =
      let (all, written, t) = D.taken in
      let long : length (take held kept) ≡ held = length-take-le held kept w in (
        all,
        written,
        ap keep_depth (sym (append-nil all)) ∙ t [] ∙ ap (λ (l : List ℕ). ahead written (copy_lines line (lines_of l))) (append-nil (take held kept))
            ∙ ap (ahead written) (unended_stops line (take held kept) (omega (arith, long)) D.unended) ∙ ahead-stopped written line,
      )

  -- one part more
  module _ {part : List ℕ} {s : Step} {kept' out' : List ℕ} (S : Stepped kept held part line s kept' out') where
    abbrev more : (all rest : List ℕ) → (all ++ part) ++ rest ≡ all ++ (part ++ rest)
    more all rest = append_assoc all part rest

    pub part_stops : s.held ≡ None → Told (refuse_at 3 (P.Line s.line))
    part_stops e =
        let (all, written, t) = D.taken in
        let stopped : (rest : List ℕ) → copy_lines line (lines_of (take held kept ++ (part ++ rest))) ≡ record { written = take s.wrote out'; verdict = refuse_at 3 (P.Line s.line) } =
        rw e at S.stopped in
        (all ++ part, written ++ take s.wrote out', ap keep_depth (sym (append-nil (all ++ part)) ∙ more all []) ∙ t (part ++ []) ∙ ap (ahead written) (stopped []))

    pub part-goes : {left : ℕ} → s.held ≡ Some left → Reading kept' left s.line (turns + 1)
    part-goes {left} e =
        let (all, written, t) = D.taken in
        let g : Held kept held part line s kept' out' left = subst (λ (d : Option ℕ). IfSome d (Held kept held part line s kept' out')) e S.goes in
        record {
          few = g.few;
          unended = g.unended;
          counted = omega (arith, S.counted, D.counted);
          taken = (
            all ++ part,
            written ++ take s.wrote out',
            λ rest.
                ap keep_depth (more all rest) ∙ t (part ++ rest) ∙ ap (ahead written) (g.told rest)
                ∙ ahead-ahead written (take s.wrote out') (copy_lines s.line (lines_of (take left kept' ++ rest))),
          );
        }

-- ---- what is said at the end

module _ {kept : List ℕ} {held line turns : ℕ} (D : Reading kept held line turns) where
  pub ended-told : {r : Result Unit Fault} → held ≤ length kept → (held ≡ 0 → r ≡ Ok tt) → (1 ≤ held → r ≡ Err (F.Refused (record { number = 3; place = P.Line line }))) → Ended r
  ended-told {r} w none some = by (dec_le 1 held)
    where
      by : Dec (1 ≤ held) → Ended r
      by (yes h) = subst Ended (sym (some h)) (line-left D h w)
      by (no h) = let z : held ≡ 0 = omega arith in subst Ended (sym (none z)) (all_copied D z)
