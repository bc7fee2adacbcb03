-- From the model's answer to what the public calls promise: a trial is opened as a run of one, and a job as a trial whose path list is never too short.
-- Assumes nothing.
use Prim.Native.Nat.{ℕ}
use mathlib.Core.Path.{◌≡◌, refl, sym, ap, ◌∙◌}
use mathlib.Core.List.{List}
use native.Mathlib.Omega.{arith}
use lib.ListN.{length}
use Rattle.answers.specs.Says.{says_verdict}
use Rattle.answers.specs.declared.Goals.{Goals}
use Rattle.answers.specs.declared.Job.{Job}
use Rattle.answers.specs.declared.Refusal.{Refusal}
use Rattle.answers.specs.Outcomes.{Verdict}
use Rattle.std.specs.Prelude.{Ok, Err}
use Rattle.model.specs.Basics.{then}
use Rattle.model.specs.Floor.{Floor, goals_of, opening_table}
use Rattle.model.specs.Checks.{floor_of, sizes, path_room, settings}
use Rattle.model.specs.Opening.{accepts, open_job, open_trial, reports_room, trials_hold, open_run, open_table, filled}
use Rattle.model.proofs.Accepted.{then_next, then_stops, then_goes, sizes_judges, path_judges}
use Rattle.opening.specs.Promise.{Answers, Fills}

pub answered : {r v : Verdict} → r ≡ v → Answers r v
answered e = record { is = e; says = ap says_verdict e }

module _ (f : Floor) (q : ℕ) (g : Goals) (table : List ℕ) where
  pub fills-refused : {r : Verdict} {x : Refusal} → r ≡ open_table f q g (length table) → r ≡ Err x → Fills f q g table r table
  fills-refused e t = record { answer = answered e; left = ap (λ v. filled v f q g table) (sym t ∙ e) }

  pub fills-done : {after : List ℕ} → Ok tt ≡ open_table f q g (length table) → after ≡ opening_table f q (goals_of g) → Fills f q g table (Ok tt) after
  fills-done e t = record { answer = answered e; left = t ∙ ap (λ v. filled v f q g table) e }

-- a check of two is the one, then the other: what it answers before a third, where it refuses and where it is done
then_two : (v u w : Verdict) → then (then v u) w ≡ then v (then u w)
then_two (Ok _) u w = refl
then_two (Err r) u w = refl

module _ (v u w : Verdict) {a : Verdict} (e : a ≡ then v u) where
  pub both_stop : {r : Refusal} → a ≡ Err r → a ≡ then v (then u w)
  both_stop q = then_stops w e q ∙ then_two v u w

  pub both_go : {b : Verdict} → a ≡ Ok tt → b ≡ w → b ≡ then v (then u w)
  both_go q g = then_goes w e q g ∙ then_two v u w

module _ (j : Job) (bytes : List ℕ) (start : ℕ) (table : List ℕ) where
  -- one trial and room for one report are never refused
  pub run_of_one : (path : List ℕ) → open_run j bytes start table path 1 1 ≡ open_trial j bytes start table path
  unfolding open_run open_trial reports_room trials_hold
  run_of_one path = refl

  -- nor is a path list as long as a table that has a figure for each cell
  pub trial_of_table : open_trial j bytes start table table ≡ open_job j bytes start table
  unfolding open_trial open_job
  trial_of_table = by (sizes (floor_of j bytes) (length table)) refl
    where
      rest : Verdict
      rest = then (settings j) (accepts j bytes start table)

      by : (v : Verdict) → sizes (floor_of j bytes) (length table) ≡ v → then v (then (path_room (floor_of j bytes) (length table)) rest) ≡ then v rest
      by (Ok _) e = then_next rest ((path_judges (floor_of j bytes) (length table)).done (omega (arith, ((sizes_judges (floor_of j bytes) (length table)).gives e).1)))
      by (Err r) e = refl
