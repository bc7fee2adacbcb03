-- Trials told one after another: where a run stands between two of them, and that its lines are those of the model's course.
-- Assumes nothing.
use Prim.Native.Nat.{ℕ, suc, ◌+◌, ◌-◌, ◌≤◌, ◌<◌}
use mathlib.Core.Path.{◌≡◌, refl, sym, ap, ◌∙◌}
use mathlib.Core.Bool.{Bool, true, false}
use mathlib.Core.List.{List, [], ◌∷◌, ◌++◌, append_assoc, append-nil}
use native.Mathlib.Omega.{arith}
use borrow.Author.Tests.{eq-eqb, ne_eqb}
use lib.Dec.{eqb}
use lib.ListN.{length, length-append}
use Rattle.answers.specs.declared.Job.{Job}
use Rattle.answers.specs.declared.Report.{Report}
use Rattle.std.specs.Prelude.{Ok}
use Rattle.model.specs.Opening.{open_trial}
use Rattle.model.specs.Ride.{Ride, Course, ride, course_from}
use Rattle.model.specs.FloorText.{LF}
use Rattle.model.specs.Line.{field, settled_word, trial_line, trial_lines, course_lines}
use Rattle.model.proofs.Rides.{course_none, course_settled, course_again}
use Rattle.model.proofs.Demand.{trial_stays_accepted}
use Rattle.notation.specs.declared.print.Printer.{Printer}
use Rattle.notation.specs.Prints.{Prints}
use Rattle.notation.proofs.Decimals.{field_few}
use Rattle.line.specs.Printing.{last_line}
use Rattle.journey.specs.Telling.{Room, Told, Ended, Trips}
use Rattle.journey.proofs.Telling.{told_none, told_then, ended, ended_then}

lines_more : (j : Job) (bytes : List ℕ) (rs : List Ride) (r : Ride) → trial_lines j bytes rs ++ trial_line j bytes r ≡ trial_lines j bytes (rs ++ r ∷ [])
unfolding trial_lines
lines_more j bytes [] r = sym (append-nil (trial_line j bytes r))
lines_more j bytes (x ∷ xs) r = append_assoc (trial_line j bytes x) (trial_lines j bytes xs) (trial_line j bytes r) ∙ ap (λ l. trial_line j bytes x ++ l) (lines_more j bytes xs r)

word_few : (b : Bool) → length (settled_word b) ≤ 9
word_few true = omega arith
word_few false = omega arith

last_few : (b : Bool) (n : ℕ) → length (last_line b n) ≤ 31
last_few b n = omega (arith, length-append (settled_word b) (field n ++ (LF ∷ [])), length-append (field n) (LF ∷ []), word_few b, field_few n)

-- the last line after the lines of all the rides
last_told : (j : Job) (bytes : List ℕ) (c : Course) {rs : List Ride} {b : Bool} {n : ℕ} {p₀ p e : Printer} → c.rides ≡ rs → c.settled ≡ b → length rs ≡ n
    → Told p₀ (trial_lines j bytes rs) p → Prints p (last_line b n) e → Ended p₀ (course_lines j bytes c) e
unfolding course_lines
last_told j bytes c {b = b} {n = n} r s l t P = rw (r, s, l) (ended_then _ _ t (ended P t.room.size (omega (arith, P.printed.next, last_few b n, t.room.left))))

-- The invariant: the lines of the rides so far are told, and the whole course is these rides and those that follow.
pub record Coursing (j : Job) (bytes : List ℕ) (start trials : ℕ) (table₀ path₀ : List ℕ) (p₀ : Printer) (made : ℕ) (table path : List ℕ) (p : Printer) : Type 0 where
  pub done : List Ride
  pub told : Told p₀ (trial_lines j bytes done) p
  pub many : length done ≡ made
  pub opened : open_trial j bytes start table path ≡ Ok tt
  pub rides : (course_from j bytes start trials table₀ path₀).rides ≡ done ++ (course_from j bytes start (trials - made) table path).rides
  pub settled : (course_from j bytes start trials table₀ path₀).settled ≡ (course_from j bytes start (trials - made) table path).settled

module _ {j : Job} {bytes : List ℕ} {start trials : ℕ} {table₀ path₀ : List ℕ} {p₀ : Printer} where
  pub none_yet : open_trial j bytes start table₀ path₀ ≡ Ok tt → Room p₀ → Coursing j bytes start trials table₀ path₀ p₀ 0 table₀ path₀ p₀
  unfolding trial_lines
  none_yet opened room =
      let all : trials ≡ trials - 0 = omega arith in
      record {
        done = [];
        told = told_none room;
        many = refl;
        opened = opened;
        rides = ap (λ (n : ℕ). (course_from j bytes start n table₀ path₀).rides) all;
        settled = ap (λ (n : ℕ). (course_from j bytes start n table₀ path₀).settled) all;
      }

  module _ {made : ℕ} {table path : List ℕ} {p : Printer} (s : Coursing j bytes start trials table₀ path₀ p₀ made table path p) where
    module _ (h : made < trials) {r : Report} {table' path' : List ℕ} {p' : Printer} (d : Trips j bytes (ride j bytes start table path) r table' path' p p') where
      abbrev this : Ride
      this = ride j bytes start table path

      left : trials - made ≡ suc (trials - (made + 1))
      left = omega arith

      told_so : Told p₀ (trial_lines j bytes (s.done ++ this ∷ [])) p'
      told_so = rw lines_more at (told_then _ _ s.told d.told)

      many_so : length (s.done ++ this ∷ []) ≡ made + 1
      many_so = omega (arith, length-append s.done (this ∷ []), s.many)

      -- the last, which learned nothing
      pub settled_told : r.learned ≡ 0 → {e : Printer} → Prints p' (last_line true (made + 1)) e → Ended p₀ (course_lines j bytes (course_from j bytes start trials table₀ path₀)) e
      settled_told z P =
          let none : eqb this.learned 0 ≡ true = eq-eqb _ 0 (sym (ap (λ r. r.learned) d.rode.record_is) ∙ z) in
          let last = ap (λ (n : ℕ). course_from j bytes start n table path) left ∙ course_settled j bytes start (trials - (made + 1)) table path none in
          last_told j bytes _ (s.rides ∙ ap (λ c. s.done ++ c.rides) last) (s.settled ∙ ap (λ c. c.settled) last) many_so told_so P

      -- one after which there may be more
      pub one_told : (r.learned ≡ 0 → ⊥) → Coursing j bytes start trials table₀ path₀ p₀ (made + 1) table' path' p'
      one_told z =
          let some : eqb this.learned 0 ≡ false = ne_eqb _ 0 (λ e. z (ap (λ r. r.learned) d.rode.record_is ∙ e)) in
          let more = ap (λ (n : ℕ). course_from j bytes start n table path) left ∙ course_again j bytes start (trials - (made + 1)) table path some in
          rw (d.rode.table_is, d.rode.path_is)
          (record {
            done = s.done ++ this ∷ [];
            told = told_so;
            many = many_so;
            opened = trial_stays_accepted j bytes start table path s.opened;
            rides = s.rides ∙ ap (λ c. s.done ++ c.rides) more ∙ sym (append_assoc s.done (this ∷ []) _);
            settled = s.settled ∙ ap (λ c. c.settled) more;
          })

    -- none is left
    pub all_told : trials ≡ made → {e : Printer} → Prints p (last_line false trials) e → Ended p₀ (course_lines j bytes (course_from j bytes start trials table₀ path₀)) e
    all_told h P =
        let none : trials - made ≡ 0 = omega arith in
        let over = ap (λ (n : ℕ). course_from j bytes start n table path) none ∙ course_none j bytes start table path in
        last_told j bytes _ (s.rides ∙ ap (λ c. s.done ++ c.rides) over ∙ append-nil s.done) (s.settled ∙ ap (λ c. c.settled) over) (s.many ∙ sym h) s.told P
