-- Demand 1 of the mission, its last sentence, from what the public calls promise: "A refused call leaves every lent list exactly as lent."
-- Each outcome goes by a verdict that leaves the lists where it refuses; a decision let through may still be refused, by 8, 9 or 10, and then changes nothing.
-- A theorem for each call that is lent a list to write; `open`, `find_records` and `check_trailer` are lent none.
use Prim.Native.Nat.{ℕ, ◌+◌, ◌-◌, ◌*◌}
use mathlib.Core.Path.{◌≡◌, refl, sym, ap, ◌∙◌, subst}
use mathlib.Core.Bool.{Bool, true, false, ◌&&◌}
use mathlib.Core.List.{List, [], ◌++◌}
use native.Mathlib.Nat.{add-zero}
use native.Mathlib.Omega.{arith}
use lib.Dec.{ltb, leb, eqb}
use lib.ListN.{length, get_or, take, drop, take-append-drop}
use Rattle.learning.specs.Ground.{View}
use Rattle.answers.specs.declared.Goals.{Goals}
use Rattle.answers.specs.declared.Job.{Job}
use Rattle.answers.specs.declared.State.{State}
use Rattle.answers.specs.declared.Decided.{Decided}
use Rattle.answers.specs.declared.Report.{Report}
use Rattle.answers.specs.declared.Refusal.{Refusal}
use Rattle.answers.specs.declared.Answer.TheVariants as A
use Rattle.answers.specs.Outcomes.{Verdict}
use Rattle.std.specs.Prelude.{Ok, Err}
use Rattle.answers.proofs.One.{answer_one, verdict_one}
use Rattle.model.specs.Floor.{Floor, goals_of}
use Rattle.model.specs.Checks.{ceiling}
use Rattle.model.specs.Lookahead.{seen, ring, empty_ring}
use Rattle.model.specs.Decision.{at_goal, Deed, rise, forward_by, back_out_by, stay, go_back, act, laid, judge, outcome_of, decide}
use Rattle.model.specs.Opening.{open_trial, open_run, filled}
use Rattle.model.specs.Ride.{ride, trial_of, trial, trial_by, course_from, run_of, run, run_by}
use Rattle.model.specs.FloorText.{floor_verdict, floor_from, read_floor}
use Rattle.model.specs.FloorWritten.{text_of, text_verdict, write_floor}
use Rattle.model.specs.TableFile.{read_verdict, read_of, read_table, write_verdict, file_of, write_table}
use Rattle.model.specs.Renewal.{renewed, renew_verdict, renew_file}
use Rattle.model.specs.KeepDepth.{with_old_depth, depth_verdict, with_depth}
use Rattle.model.specs.Writing.{write_of, Writes}
use Rattle.model.proofs.Cases.{act-arrived, act_blind, act-learns, learn_over, learn-forward, learn-back, back-stays, back_lost, back-goes, decide-refused, decide_acts}
use Rattle.model.proofs.Steps.{new_here, target_here}
use Rattle.decision.specs.Ready.{Decides}
use Rattle.opening.specs.Promise.{Fills}
use Rattle.run.specs.Trials.{IsTrial, IsRun}
use Rattle.floor_text.specs.Reads as text
use Rattle.table_file.specs.Promises as file

-- ---- `decide`: the state, the table, the path and the moves

module _ (j : Job) (bytes : List ℕ) (s : State) (table path : List ℕ) where
  -- a deed that is refused does nothing
  abbrev Idle : Deed → Type 0
  Idle d = (x : Refusal) → d.answer ≡ A.Refused x → (d.state ≡ s) × (d.table ≡ table) × (d.path ≡ path) × (d.way ≡ [])

  act_idle : Idle (act j bytes s table path)
  unfolding forward_by back_out_by stay
  act_idle =
      by (at_goal j bytes s.current) refl (empty_ring j bytes v v.last) refl
      (ltb (get_or table s.current 0) new && ltb ceiling new) refl (leb (s.learned + rise table s.current new) (j.q * j.quota)) refl
    where
      v : View
      v = seen j bytes s.current

      new : ℕ
      new = new_here j bytes s table

      t : ℕ
      t = target_here j bytes s table

      l : ℕ
      l = get_or path (s.length - 1) 0

      back : (a : Bool) → eqb s.length 0 ≡ a → (b : Bool) → eqb (ring j bytes (seen j bytes l) s.current) (seen j bytes l).last ≡ b → Idle (go_back j bytes s table path new)
      back true e b f = subst Idle (sym (back-stays j bytes s table path new e)) (λ x q. let z : ◌≡◌ {A = ℕ} 0 1 = cc in absurd (omega arith))
      back false e true f = subst Idle (sym (back-goes j bytes s table path new e f)) (λ x q. let z : ◌≡◌ {A = ℕ} 0 1 = cc in absurd (omega arith))
      back false e false f = subst Idle (sym (back_lost j bytes s table path new e f)) (λ x q. (refl, refl, refl, refl))

      by : (a : Bool) → at_goal j bytes s.current ≡ a → (b : Bool) → empty_ring j bytes v v.last ≡ b → (c : Bool) → (ltb (get_or table s.current 0) new && ltb ceiling new) ≡ c
          → (d : Bool) → leb (s.learned + rise table s.current new) (j.q * j.quota) ≡ d → Idle (act j bytes s table path)
      by true e b f c g d h = subst Idle (sym (act-arrived j bytes s table path e)) (λ x q. (refl, refl, refl, refl))
      by false e true f c g d h = subst Idle (sym (act_blind j bytes s table path e f)) (λ x q. (refl, refl, refl, refl))
      by false e false f true g d h =
          subst Idle (sym (act-learns j bytes s table path e f ∙ learn_over j bytes s table path v new t g)) (λ x q. (refl, refl, refl, refl))
      by false e false f false g true h =
          subst Idle (sym (act-learns j bytes s table path e f ∙ learn-forward j bytes s table path v new t g h)) (λ x q. let z : ◌≡◌ {A = ℕ} 0 1 = cc in absurd (omega arith))
      by false e false f false g false h =
          subst Idle (sym (act-learns j bytes s table path e f ∙ learn-back j bytes s table path v new t g h))
          (back (eqb s.length 0) refl (eqb (ring j bytes (seen j bytes l) s.current) (seen j bytes l).last) refl)

  pub refused-decide : (moves : List ℕ) (from : ℕ) {t p m : List ℕ} {r : Decided} {x : Refusal} → Decides (decide j bytes s table path moves from) r t p m → r.answer ≡ A.Refused x
      → (r.state ≡ s) × (t ≡ table) × (p ≡ path) × (m ≡ moves)
  refused-decide moves from {t} {p} {m} {r} {x} h q = by (judge j bytes s table path (length moves) from) refl
    where
      by : (v : Verdict) → judge j bytes s table path (length moves) from ≡ v → (r.state ≡ s) × (t ≡ table) × (p ≡ path) × (m ≡ moves)
      by (Err y) e =
          let o = decide-refused j bytes s table path moves from y e in
          (h.state ∙ ap (λ o. o.state) o, h.table ∙ ap (λ o. o.table) o, h.path ∙ ap (λ o. o.path) o, h.moves ∙ ap (λ o. o.moves) o)
      by (Ok _) e = (h.state ∙ ap (λ o. o.state) o ∙ idle.0, h.table ∙ ap (λ o. o.table) o ∙ idle.1, h.path ∙ ap (λ o. o.path) o ∙ idle.2, h.moves ∙ ap (λ o. o.moves) o ∙ none)
        where
          o : decide j bytes s table path moves from ≡ outcome_of (Ok tt) (act j bytes s table path) s table path moves from
          o = decide_acts j bytes s table path moves from e

          idle : ((act j bytes s table path).state ≡ s) × ((act j bytes s table path).table ≡ table) × ((act j bytes s table path).path ≡ path) × ((act j bytes s table path).way ≡ [])
          idle = act_idle x (sym (answer_one r.answer _ h.answer ∙ ap (λ o. o.answer) o) ∙ q)

          none : laid moves from (act j bytes s table path).way ≡ moves
          none = ap (laid moves from) idle.3 ∙ ap (λ k. take from moves ++ drop k moves) (add-zero from) ∙ take-append-drop from moves

-- ---- the calls whose outcome goes by one verdict

-- `trial`: the table and the path
pub refused-trial : (j : Job) (bytes : List ℕ) (start : ℕ) (table path : List ℕ) {x : Refusal} {t p : List ℕ} → IsTrial (trial j bytes start table path) (Err x) t p
    → (t ≡ table) × (p ≡ path)
unfolding trial_by
refused-trial j bytes start table path {x} {t} {p} = by (open_trial j bytes start table path)
  where
    by : (v : Verdict) → IsTrial (trial_of v j bytes (ride j bytes start table path) table path) (Err x) t p → (t ≡ table) × (p ≡ path)
    by (Err y) h = (h.table_is, h.path_is)
    by (Ok _) h = absurd (omega (arith, ap (λ s. s.kind) h.answer_is))

-- `run`: the table, the path and the records
pub refused-run : (j : Job) (bytes : List ℕ) (start trials : ℕ) (table path : List ℕ) (lent : List Report) {x : Refusal} {t p : List ℕ} {reports : List Report}
    → IsRun (run j bytes start trials table path lent) (Err x) t p reports → (t ≡ table) × (p ≡ path) × (reports ≡ lent)
unfolding run_by
refused-run j bytes start trials table path lent {x} {t} {p} {reports} = by (open_run j bytes start table path trials (length lent))
  where
    by : (v : Verdict) → IsRun (run_of v j bytes (course_from j bytes start trials table path) table path lent) (Err x) t p reports → (t ≡ table) × (p ≡ path) × (reports ≡ lent)
    by (Err y) h = (h.table_is, h.path_is, h.reports_are)
    by (Ok _) h = absurd (omega (arith, ap (λ s. s.kind) h.answer_is))

-- `fill_opening`: the table
pub refused-fill_opening : (f : Floor) (q : ℕ) (g : Goals) (table : List ℕ) {x : Refusal} {t : List ℕ} → Fills f q g table (Err x) t → t ≡ table
refused-fill_opening f q g table h = h.left ∙ ap (λ v. filled v f q g table) (sym h.answer.is)

-- `read_floor`: the buffer
pub refused-read_floor : (bytes buffer : List ℕ) {x : Refusal} {b : List ℕ} → text.Reads (read_floor bytes buffer) (Err x) b → b ≡ buffer
unfolding read_floor
refused-read_floor bytes buffer {x} {b} = by (floor_verdict bytes (length buffer))
  where
    by : (v : Verdict) → text.Reads (floor_from v bytes buffer) (Err x) b → b ≡ buffer
    by (Err y) h = h.buffer
    by (Ok _) h = absurd (omega (arith, ap (λ s. s.kind) h.answer))

-- `read_table`: the table
pub refused-read_table : (f : Floor) (q : ℕ) (g : Goals) (bytes table : List ℕ) {x : Refusal} {t : List ℕ}
    → file.Reads (read_verdict f q g bytes (length table)) (read_table f q g bytes table) (Err x) t → t ≡ table
unfolding read_table
refused-read_table f q g bytes table {x} h = h.table ∙ ap (λ v. read_of v f q g bytes table) (sym (verdict_one (Err x) (read_verdict f q g bytes (length table)) h.answer))

-- what all writers promise
refused_writing : (v : Verdict) (file buffer : List ℕ) {x : Refusal} {b : List ℕ} → Writes (write_of v file buffer) (Err x) b → b ≡ buffer
refused_writing (Err y) file buffer h = h.buffer
refused_writing (Ok _) file buffer h = absurd (omega (arith, ap (λ s. s.kind) h.answer))

-- `write_floor`: the buffer
pub refused-write_floor : (f : Floor) (buffer : List ℕ) {x : Refusal} {b : List ℕ} → Writes (write_floor f buffer) (Err x) b → b ≡ buffer
unfolding write_floor
refused-write_floor f buffer h = refused_writing (text_verdict f (length buffer)) (text_of f) buffer h

-- `write_table`: the buffer
pub refused-write_table : (f : Floor) (q : ℕ) (g : Goals) (table buffer : List ℕ) {x : Refusal} {b : List ℕ} → Writes (write_table f q g table buffer) (Err x) b → b ≡ buffer
unfolding write_table
refused-write_table f q g table buffer h = refused_writing (write_verdict f q g table (length buffer)) (file_of f q (goals_of g) table) buffer h

-- `renew_file`: the buffer
pub refused-renew_file : (old buffer : List ℕ) {x : Refusal} {b : List ℕ} → Writes (renew_file old buffer) (Err x) b → b ≡ buffer
unfolding renew_file
refused-renew_file old buffer h = refused_writing (renew_verdict old (length buffer)) (renewed old) buffer h

-- `with_depth`: the buffer
pub refused_with_depth : (line buffer : List ℕ) {x : Refusal} {b : List ℕ} → Writes (with_depth line buffer) (Err x) b → b ≡ buffer
unfolding with_depth
refused_with_depth line buffer h = refused_writing (depth_verdict line (length buffer)) (with_old_depth line) buffer h
