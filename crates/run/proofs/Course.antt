-- Where a run stands between two trials, and that from there it comes to what the model's run comes to: the trials made, and the course that follows them.
-- Assumes nothing.
use Prim.Native.Nat.{ℕ, suc, ◌+◌, ◌-◌, ◌≤◌, ◌<◌}
use mathlib.Core.Path.{◌≡◌, sym, ap, ◌∙◌}
use mathlib.Core.Bool.{Bool, true, false}
use mathlib.Core.List.{List, [], ◌∷◌, ◌++◌, map, append_assoc}
use native.Mathlib.Omega.{arith}
use borrow.Author.Tests.{eq-eqb, ne_eqb}
use lib.Dec.{eqb}
use lib.ListN.{length, set, take, drop, length-set, take-append-drop, length-map}
use lib.Seq.{take-suc-set, drop-set-lt, set_split}
use Rattle.answers.specs.declared.Job.{Job}
use Rattle.answers.specs.declared.Report.{Report}
use Rattle.answers.specs.declared.Refusal.{Refusal}
use Rattle.answers.specs.Outcomes.{Ran, made_run}
use Rattle.std.specs.Prelude.{Ok, Err}
use Rattle.answers.specs.Says.{says_ran}
use Rattle.model.specs.Opening.{open_trial, open_run}
use Rattle.model.specs.Ride.{Ride, ride, report, Course, course_from, RunOutcome, run_of, run, run_by}
use Rattle.model.proofs.Openings.{accepted-trial, ready-run}
use Rattle.model.proofs.Rides.{course_none, course_settled, course_again}
use Rattle.model.proofs.Demand.{trial_stays_accepted}
use Rattle.run.specs.Trials.{Rode, IsRun}

-- a run that is over
abbrev over : (made : ℕ) → (settled : Bool) → (table path : List ℕ) → List Report → RunOutcome
over made settled table path reports = record { answer = made_run made settled; table = table; path = path; reports = reports }

-- what a run answers and leaves, by an equation
is_run : {o : RunOutcome} {answer : Ran} {table path : List ℕ} {reports : List Report} → record { answer = answer; table = table; path = path; reports = reports } ≡ o
    → IsRun o answer table path reports
is_run e = record { answer_is = ap (λ u. says_ran u.answer) e; table_is = ap (λ u. u.table) e; path_is = ap (λ u. u.path) e; reports_are = ap (λ u. u.reports) e }

module _ (j : Job) (bytes : List ℕ) (start : ℕ) where
  -- what a course comes to after so many trials
  abbrev follows : (made : ℕ) → Course → List Report → RunOutcome
  follows made c reports =
      over (made + length c.rides) c.settled c.table c.path (take made reports ++ (map (report j bytes) c.rides ++ drop (made + length c.rides) reports))

  -- The invariant of a run that is to come to o and may make so many trials.
  pub record Running (o : RunOutcome) (trials made : ℕ) (table path : List ℕ) (reports : List Report) : Type 0 where
    -- from here it comes to o
    pub comes : follows made (course_from j bytes start (trials - made) table path) reports ≡ o
    -- a trial more would be let through, and its record has room
    pub opened : open_trial j bytes start table path ≡ Ok tt
    pub room : trials ≤ length reports

  module _ (trials : ℕ) (table path : List ℕ) (reports : List Report) where
    pub refused : {r : Refusal} → open_run j bytes start table path trials (length reports) ≡ Err r → IsRun (run j bytes start trials table path reports) (Err r) table path reports
    unfolding run_by
    refused e = is_run (ap (λ v. run_of v j bytes (course_from j bytes start trials table path) table path reports) (sym e))

    -- nothing made yet
    pub begins : open_run j bytes start table path trials (length reports) ≡ Ok tt → Running (run j bytes start trials table path reports) trials 0 table path reports
    unfolding run_by
    begins e =
        let s = ready-run j bytes start table path trials (length reports) e in
        let c = course_from j bytes start trials table path in
        let many : length c.rides ≡ length (map (report j bytes) c.rides) = sym (length-map c.rides (report j bytes)) in
        let whole : trials - 0 ≡ trials = omega arith in
        let all : 0 + length c.rides ≡ length c.rides = omega arith in
        record {
          comes =
              ap (λ (n : ℕ). follows 0 (course_from j bytes start n table path) reports) whole
              ∙ (λ i. over (all i) c.settled c.table c.path (map (report j bytes) c.rides ++ drop ((all ∙ many) i) reports))
              ∙ ap (λ v. run_of v j bytes c table path reports) (sym e);
          opened = accepted-trial j bytes start table path s.ready;
          room = s.reports;
        }

  -- a trial more
  module _ {o : RunOutcome} {trials made : ℕ} {table path : List ℕ} {reports : List Report} (s : Running o trials made table path reports) (h : made < trials) where
    abbrev this : Ride
    this = ride j bytes start table path

    abbrev filed : List Report
    filed = set reports made (report j bytes this)

    abbrev rest : Course
    rest = course_from j bytes start (trials - (made + 1)) this.table this.path

    left : trials - made ≡ suc (trials - (made + 1))
    left = omega arith

    here : made < length reports
    here = omega (arith, s.room)

    -- the last, which learned nothing
    pub settles : {r : Report} {t p : List ℕ} → Rode j bytes this r t p → r.learned ≡ 0 → IsRun o (made_run (made + 1) true) t p (set reports made r)
    settles d e =
        let at : suc made ≡ made + 1 = omega arith in
        let none : eqb this.learned 0 ≡ true = eq-eqb _ 0 (sym (ap (λ r. r.learned) d.record_is) ∙ e) in
        rw (d.record_is, d.table_is, d.path_is)
        (is_run
        ((λ i. over (made + 1) true this.table this.path ((set_split reports made (report j bytes this) here ∙ ap (λ (n : ℕ). take made reports ++ (report j bytes this ∷ drop n reports)) at) i))
        ∙ ap (λ c. follows made c reports) (sym (ap (λ (n : ℕ). course_from j bytes start n table path) left ∙ course_settled j bytes start (trials - (made + 1)) table path none))
        ∙ s.comes))

    -- one after which there may be more
    pub turns : {r : Report} {t p : List ℕ} → Rode j bytes this r t p → (r.learned ≡ 0 → ⊥) → Running o trials (made + 1) t p (set reports made r)
    turns d e =
        let some : eqb this.learned 0 ≡ false = ne_eqb _ 0 (λ z. e (ap (λ r. r.learned) d.record_is ∙ z)) in
        let n = length rest.rides in
        let at : made + 1 + n ≡ made + suc n = omega arith in
        let one : suc made ≡ made + 1 = omega arith in
        let R = report j bytes this in
        let later = map (report j bytes) rest.rides in
        let stored : take (made + 1) filed ++ (later ++ drop (made + 1 + n) filed) ≡ take made reports ++ (R ∷ later ++ drop (made + suc n) reports) =
        ap (λ (k : ℕ). take k filed ++ (later ++ drop (made + 1 + n) filed)) (sym one) ∙ ap (λ xs. xs ++ (later ++ drop (made + 1 + n) filed)) (take-suc-set reports made R here)
        ∙ append_assoc (take made reports) (R ∷ []) _
        ∙ ap (λ xs. take made reports ++ (R ∷ (later ++ xs))) (drop-set-lt (made + 1 + n) reports made R (omega arith) ∙ ap (λ (k : ℕ). drop k reports) at) in
        rw (d.record_is, d.table_is, d.path_is)
        (record {
          comes =
              (λ i. over (at i) rest.settled rest.table rest.path (stored i))
              ∙ ap (λ c. follows made c reports) (sym (ap (λ (k : ℕ). course_from j bytes start k table path) left ∙ course_again j bytes start (trials - (made + 1)) table path some))
              ∙ s.comes;
          opened = trial_stays_accepted j bytes start table path s.opened;
          room = omega (arith, s.room, length-set reports made (report j bytes this));
        })

  -- none is left
  pub ends : {o : RunOutcome} {trials made : ℕ} {table path : List ℕ} {reports : List Report} → Running o trials made table path reports → made ≡ trials
      → IsRun o (made_run trials false) table path reports
  ends {o} {trials} {made} {table} {path} {reports} s h =
      let none : trials - made ≡ 0 = omega arith in
      let all : trials ≡ made + 0 = omega arith in
      let at : made ≡ made + 0 = omega arith in
      is_run
      ((λ i. over (all i) false table path ((sym (take-append-drop made reports) ∙ ap (λ (n : ℕ). take made reports ++ drop n reports) at) i))
      ∙ ap (λ c. follows made c reports) (sym (ap (λ (n : ℕ). course_from j bytes start n table path) none ∙ course_none j bytes start table path))
      ∙ s.comes)
