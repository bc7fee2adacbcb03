-- Texts told one after another are one text, told; and what a decision of a trial tells.
-- Assumes nothing.
use Prim.Native.Nat.{ℕ, zero, suc, ◌+◌, ◌≤◌, ◌<◌}
use mathlib.Core.Path.{◌≡◌, refl, sym, ap, subst, ◌∙◌}
use mathlib.Core.Bool.{Bool, true, false, ◌||◌}
use mathlib.Core.List.{List, [], ◌∷◌, ◌++◌, append_assoc, append-nil}
use native.Mathlib.Decide.{dec_le}
use native.Mathlib.Omega.{arith}
use borrow.Author.Tests.{lt-ltb}
use lib.Dec.{ltb}
use lib.ListN.{length, take, drop, get_or, length-append, length-drop, drop_of_length-le}
use lib.Seq.{take_at, length-take-le, drop-append-le, drop-drop}
use Rattle.learning.specs.Path.{All, end, also}
use Rattle.answers.specs.declared.Job.{Job}
use Rattle.answers.specs.declared.Report.{Report}
use Rattle.std.specs.Prelude.{Ok}
use Rattle.model.specs.Opening.{open_trial}
use Rattle.model.specs.Basics.{member}
use Rattle.model.specs.Checks.{goals}
use Rattle.model.specs.Lookahead.{most_moves}
use Rattle.model.specs.Decision.{Deed, act, least_room}
use Rattle.model.specs.Ride.{Ride, ride, next, next_by, report}
use Rattle.model.specs.Line.{field, moves_field, trial_line}
use Rattle.model.proofs.Openings as openings
use Rattle.model.proofs.Steps.{Does}
use Rattle.model.proofs.Rides.{does}
use Rattle.notation.specs.declared.print.Printer.{Printer}
use Rattle.notation.specs.Prints.{Prints}
use Rattle.notation.proofs.Decimals.{printed_front, field_few}
use Rattle.notation.proofs.Prints.{same_length}
use Rattle.line.specs.Printing.{move_digits, count_fields}
use Rattle.decision.specs.Laying.{way_of, Lays}
use Rattle.run.specs.declared.Stand.{Stand}
use Rattle.run.specs.declared.Workspace.{Workspace}
use Rattle.run.specs.Stands.{set_out, tallied_of, Went, Left}
use Rattle.run.specs.Trials.{Cleared, Rode}
use Rattle.run.proofs.Driving.{Driving, Underway, off, sets_out, sets_out_at, goes_on, goes_on_at, done as ends, rode_so}
use Rattle.journey.specs.Telling.{Follows, Room, Spilt, Told, Ended, some, dash, Trips}

-- ---- one text after another

pub follows_none : (standing : List ℕ) → Follows standing [] standing
follows_none standing = record { gone = 0; within = omega arith; rest = sym (append-nil standing); whole = λ h. refl }

pub follows_then : {a b c : List ℕ} (text more : List ℕ) → Follows a text b → Follows b more c → Follows a (text ++ more) c
follows_then {a} {b} {c} text more f g =
    let all : (a ++ text) ++ more ≡ a ++ (text ++ more) = append_assoc a text more in
    let left : b ++ more ≡ drop f.gone (a ++ (text ++ more)) =
    ap (λ l. l ++ more) f.rest ∙ sym (drop-append-le f.gone (a ++ text) more f.within) ∙ ap (drop f.gone) all in
    let size : length (a ++ (text ++ more)) ≡ length (a ++ text) + length more = ap length (sym all) ∙ length-append (a ++ text) more in
    let size' : length (b ++ more) + f.gone ≡ length (a ++ text) + length more =
    omega (arith, length-append b more, ap length f.rest, length-drop f.gone (a ++ text), f.within) in
    record {
      gone = f.gone + g.gone;
      within = omega (arith, g.within);
      rest = g.rest ∙ ap (drop g.gone) left ∙ drop-drop g.gone f.gone (a ++ (text ++ more));
      whole = λ h.
          let z = f.whole (omega arith) in
          let z' = g.whole (omega arith) in
          omega arith;
    }

module _ {p m : Printer} {text : List ℕ} (P : Prints p text m) (size : length p.out.now ≡ 65536) (h : m.at ≤ 65536) where
  -- what is printed stands after what stood there
  after : take m.at m.out.now ≡ take p.at p.out.now ++ text
  after = printed_front text P.printed (omega (arith, P.printed.next))

  size_after : length m.out.now ≡ 65536
  size_after = same_length P ∙ size

  long : length (take p.at p.out.now ++ text) ≡ m.at
  long = sym (ap length after) ∙ length-take-le m.at m.out.now (omega (arith, size_after))

  pub ended : Ended p text m
  ended = record {
    lent = P.lent;
    size = size_after;
    within = h;
    follows = record { gone = 0; within = omega arith; rest = after; whole = λ h. refl };
  }

  pub told_one : {e : Printer} → Spilt m e → Told p text e
  told_one {e} s = by (dec_le m.at 65024)
    where
      by : Dec (m.at ≤ 65024) → Told p text e
      by (yes few) = record {
        lent = s.lent ∙ P.lent;
        room = record { size = ap length s.same ∙ size_after; left = omega (arith, s.kept few) };
        follows = rw (s.kept few, s.same) ended.follows;
      }
      by (no many) =
          let none : e.at ≡ 0 = s.spilt (omega arith) in
          record {
            lent = s.lent ∙ P.lent;
            room = record { size = ap length s.same ∙ size_after; left = omega arith };
            follows = record {
              gone = length (take p.at p.out.now ++ text);
              within = omega arith;
              rest = rw none (sym (drop_of_length-le (take p.at p.out.now ++ text) {i = length (take p.at p.out.now ++ text)} (omega arith)));
              whole = λ few. absurd (omega (arith, long));
            };
          }

pub told_none : {p : Printer} → Room p → Told p [] p
told_none {p} r = record { lent = refl; room = r; follows = follows_none (take p.at p.out.now) }

module _ {p p' p'' : Printer} (text more : List ℕ) (t : Told p text p') where
  pub told_then : Told p' more p'' → Told p (text ++ more) p''
  told_then u = record { lent = u.lent ∙ t.lent; room = u.room; follows = follows_then text more t.follows u.follows }

  pub ended_then : Ended p' more p'' → Ended p (text ++ more) p''
  ended_then u = record { lent = u.lent ∙ t.lent; size = u.size; within = u.within; follows = follows_then text more t.follows u.follows }

-- ---- moves

pub some_more : (xs ys : List ℕ) → some (xs ++ ys) ≡ (some xs || ltb 0 (length ys))
some_more [] [] = refl
some_more [] (y ∷ ys) = sym (lt-ltb 0 (length (y ∷ ys)) (omega arith))
some_more (x ∷ xs) ys = refl

digits_more : (xs ys : List ℕ) → move_digits (xs ++ ys) ≡ move_digits xs ++ move_digits ys
digits_more [] ys = refl
digits_more (x ∷ xs) ys = ap (λ l. (48 + x) ∷ l) (digits_more xs ys)

each : {P : ℕ → Type 0} {xs : List ℕ} → All P xs → (i : ℕ) → i < length xs → P (get_or xs i 0)
each end i h = absurd (omega arith)
each (also p a) zero h = p
each (also p a) (suc i) h = each a i (omega arith)

-- ---- a decision of a trial

module _ (j : Job) (bytes : List ℕ) (start : ℕ) (table₀ path₀ : List ℕ) (opened : open_trial j bytes start table₀ path₀ ≡ Ok tt)
    {w : Stand} {table path : List ℕ} (g : Driving j bytes start table₀ path₀ w table path) (aside : member w.state.current (goals j) ≡ false) where
  abbrev d : Deed
  d = act j bytes w.state table path

  same : act j bytes g.at.state g.at.table g.at.path ≡ d
  same i = act j bytes (g.state_is i) (g.table_is i) (g.path_is i)

  done : Does j bytes g.at.state g.at.table g.at.path (act j bytes g.at.state g.at.table g.at.path)
  done = does j bytes start table₀ path₀ (openings.ready j bytes start table₀ path₀ opened) g.riding (off j bytes start table₀ path₀ opened g aside)

  module _ {moves moves' : List ℕ} {n : ℕ} (l : Lays moves 0 d.way moves' n) where
    -- its moves stand at the front of the lent list
    way_is : take n moves' ≡ d.way
    way_is = ap (take n) l.moves ∙ take_at d.way _ n (sym l.count)

    -- they are few, and moves
    pub sayable : (length (take n moves') ≤ most_moves) × ((i : ℕ) → i < length (take n moves') → get_or (take n moves') i 0 < 8)
    sayable = rw way_is (omega (arith, done.few, ap (λ x. length x.way) same), each (rw same at done.low))

    -- told after the moves before it, they are those of the ride so far
    pub more_moves : move_digits g.at.moves ++ move_digits (take n moves') ≡ move_digits (next j bytes g.at).moves
    unfolding next_by
    more_moves =
        ap (λ l. move_digits g.at.moves ++ move_digits l) (way_is ∙ ap (λ x. x.way) (sym same))
        ∙ sym (digits_more g.at.moves (act j bytes g.at.state g.at.table g.at.path).way)

    pub moved_more : (some g.at.moves || ltb 0 n) ≡ some (next j bytes g.at).moves
    unfolding next_by
    moved_more =
        ap (λ (n : ℕ). some g.at.moves || ltb 0 n) (l.count ∙ ap (λ x. length x.way) (sym same))
        ∙ sym (some_more g.at.moves (act j bytes g.at.state g.at.table g.at.path).way)

-- ---- a trial, decision by decision

-- The invariant: the ride so far, its moves are told, and there is room for those of the next decision.
pub record Telling (j : Job) (bytes : List ℕ) (start : ℕ) (table₀ path₀ : List ℕ) (p₀ : Printer) (w : Stand) (table path : List ℕ) (l : Workspace) (moves : List ℕ) (moved : Bool)
    (p : Printer) : Type 0 where
  pub under : Underway j bytes start table₀ path₀ w table path l
  pub told : Told p₀ (move_digits under.drive.at.moves) p
  pub moved_is : moved ≡ some under.drive.at.moves
  pub room : length moves ≡ least_room

module _ {j : Job} {bytes : List ℕ} {start : ℕ} {table₀ path₀ : List ℕ} (opened : open_trial j bytes start table₀ path₀ ≡ Ok tt) {p₀ : Printer} where
  pub tells_none : {l : Workspace} {moves : List ℕ} → Cleared l → length moves ≡ least_room → Room p₀ → Telling j bytes start table₀ path₀ p₀ (set_out start) table₀ path₀ l moves false p₀
  tells_none c room r =
      let e = sym (sets_out_at j bytes opened c) in
      record {
        under = sets_out opened c;
        told = subst (λ o. Told p₀ (move_digits o.moves) p₀) e (told_none r);
        moved_is = ap (λ o. some o.moves) e;
        room = room;
      }

  -- one decision is made, and its moves are laid
  module _ {w : Stand} {table path moves : List ℕ} {l : Workspace} {moved : Bool} {p : Printer} (t : Telling j bytes start table₀ path₀ p₀ w table path l moves moved p)
      (e : member w.state.current (goals j) ≡ false)
      {table' path' moves' : List ℕ} {l' : Workspace} {r : Stand} {n : ℕ} (a : Went (act j bytes w.state table path) w l.along r table' path' l'.along)
      (f : Left j bytes (act j bytes w.state table path) w r l' path') (y : Lays moves 0 (way_of j bytes w.state.current r.answer) moves' n) where
    abbrev g : Driving j bytes start table₀ path₀ w table path
    g = t.under.drive

    -- the moves laid are the decision's
    laying : Lays moves 0 (act j bytes w.state table path).way moves' n
    laying = rw f.way y

    pub may_say : (length (take n moves') ≤ most_moves) × ((i : ℕ) → i < length (take n moves') → get_or (take n moves') i 0 < 8)
    may_say = sayable j bytes start table₀ path₀ opened g e laying

    pub tells : {p' : Printer} → length moves' ≡ length moves → Told p (move_digits (take n moves')) p'
        → Telling j bytes start table₀ path₀ p₀ r table' path' l' moves' (moved || ltb 0 n) p'
    tells size u =
        let so = sym (goes_on_at opened t.under e a f) in
        record {
          under = goes_on opened t.under e a f;
          told = rw so at (rw (more_moves j bytes start table₀ path₀ opened g e laying) at (told_then _ _ t.told u));
          moved_is = ap (λ b. b || ltb 0 n) t.moved_is ∙ moved_more j bytes start table₀ path₀ opened g e laying ∙ ap (λ o. some o.moves) so;
          room = size ∙ t.room;
        }

-- ---- a trial's line

counts_few : (r : Report) → length (count_fields r) ≤ 85
counts_few r =
    omega (
      arith,
      length-append (field r.decisions) (field r.learned ++ (field r.kept ++ (field r.travel ++ (10 ∷ [])))),
      length-append (field r.learned) (field r.kept ++ (field r.travel ++ (10 ∷ []))),
      length-append (field r.kept) (field r.travel ++ (10 ∷ [])),
      length-append (field r.travel) (10 ∷ []),
      field_few r.decisions,
      field_few r.learned,
      field_few r.kept,
      field_few r.travel,
    )

dash_few : (moved : Bool) → length (dash moved) ≤ 1
dash_few true = omega arith
dash_few false = omega arith

-- they find room after a dash
pub counts-room : {p m e : Printer} (moved : Bool) (r : Report) → Room p → Prints p (dash moved) m → Prints m (count_fields r) e → (e.at ≤ 65536) × (length e.out.now ≡ 65536)
counts-room moved r room P Q = (
  omega (arith, room.left, P.printed.next, dash_few moved, Q.printed.next, counts_few r),
  same_length Q ∙ same_length P ∙ room.size,
)

line_by : (ms rest : List ℕ) → move_digits ms ++ (dash (some ms) ++ rest) ≡ moves_field ms ++ rest
unfolding moves_field
line_by [] rest = refl
line_by (m ∷ ms) rest = refl

line_is : (j : Job) (bytes : List ℕ) (o : Ride) (moved : Bool) (r : Report) → moved ≡ some o.moves → r ≡ report j bytes o
    → move_digits o.moves ++ (dash moved ++ count_fields r) ≡ trial_line j bytes o
unfolding trial_line
line_is j bytes o moved r e f = (λ i. move_digits o.moves ++ (dash (e i) ++ count_fields (f i))) ∙ line_by o.moves (count_fields (report j bytes o))

-- told after its moves, it is the ride's
pub line_told : {j : Job} {bytes : List ℕ} {start : ℕ} {table₀ path₀ : List ℕ} (opened : open_trial j bytes start table₀ path₀ ≡ Ok tt) {p₀ p p' : Printer} {w : Stand}
    {table path moves : List ℕ} {l : Workspace} {moved : Bool} {r : Report} → Telling j bytes start table₀ path₀ p₀ w table path l moves moved p → member w.state.current (goals j) ≡ true
    → r ≡ tallied_of w l.along → Told p (dash moved ++ count_fields r) p' → Trips j bytes (ride j bytes start table₀ path₀) r table path p₀ p'
line_told {j} {bytes} opened {moved = moved} {r = r} t e is u =
    let whole = ends opened t.under e in
    let rode : Rode j bytes _ r _ _ = rw is (rode_so opened t.under e) in
    record { rode = rode; told = rw (line_is j bytes _ moved r (t.moved_is ∙ ap (λ o. some o.moves) whole) rode.record_is) at (told_then _ _ (rw whole at t.told) u) }
