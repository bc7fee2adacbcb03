-- Document 02 on settling, as a caller may conclude it from what `trial` and `run` promise, and from nothing else: "from an accepted job, trials made one after another
-- settle within R + 1, .. at most R of them learn (R taken at the first trial's start), and .. with weight 1/1 the settled trip is a cheapest one."
-- What the calls answer and leave is the model's, and of that Settling of model says it; distances are to the nearest bench.
use Prim.Native.Nat.{ℕ, zero, suc, ◌+◌, ◌*◌, ◌≤◌, ◌<◌}
use mathlib.Core.Path.{◌≡◌, refl, sym, ap, ◌∙◌, subst}
use mathlib.Core.Bool.{true}
use mathlib.Core.Logic.{◌⊎◌}
use mathlib.Core.List.{List, ◌++◌, map}
use native.Mathlib.Omega.{arith}
use lib.ListN.{length, get_or, drop}
use Rattle.answers.specs.declared.Job.{Job}
use Rattle.answers.specs.declared.Report.{Report}
use Rattle.answers.specs.Outcomes.{Tried, Ran, made_run}
use Rattle.std.specs.Prelude.{Ok}
use Rattle.answers.proofs.One.{tried_one, ran_one}
use Rattle.model.specs.Opening.{open_trial}
use Rattle.model.specs.Ride.{Ride, report, ride, trial, course_from, run}
use Rattle.model.specs.Settling.{Lists, leaves, trip, trips}
use Rattle.model.proofs.Openings.{accepted-trial, ready-run}
use Rattle.model.proofs.Demand.{R, distance, made_is_accepted, trial_is_made, trial_stays_accepted, made_run_is_accepted, run_is_made}
use Rattle.model.proofs.Settling.{R_falls_by_what_is_learned, learning_nothing_changes_nothing, same_again, settled_trip_is_cheapest, settled_trip_costs_at_most, settled_trip_keeps_its_way}
use Rattle.model.proofs.Settling.{with_quota_0_the_second_trip_is_final, course_comes, run_of_more_than_R_trials_settles, run_with_quota_0_settles_in_two}
use Rattle.run.specs.Trials.{IsTrial, IsRun}
use Rattle.learner.proofs.Mission.{Accepted, accepted-runs}

-- ---- `run`

-- the record of a settled trip
pub record Settled (j : Job) (bytes : List ℕ) (start : ℕ) (r : Report) : Type 0 where
  pub nothing : r.learned ≡ 0
  -- at weight 1/1 it travels the cheapest distance, of several benches to the nearest; at weight p/q at most q / p times that
  pub cheapest : j.p ≡ j.q → r.travel ≡ distance j bytes start
  pub at_most : j.p * r.travel ≤ j.q * distance j bytes start
  -- and all that it travels is kept
  pub all_kept : r.kept ≡ r.travel

-- the records of trials one after another
record_at_lem : (j : Job) (bytes : List ℕ) (start : ℕ) (rest : List Report) (d : Report) (n i : ℕ) (x : Lists) → i < n
    → get_or (map (report j bytes) (trips j bytes start n x) ++ rest) i d ≡ report j bytes (trip j bytes start i x)
record_at_lem j bytes start rest d zero i x h = absurd (omega arith)
record_at_lem j bytes start rest d (suc n) zero x h = refl
record_at_lem j bytes start rest d (suc n) (suc i) x h = record_at_lem j bytes start rest d n i (leaves j bytes start x) (omega arith)

module _ (j : Job) (bytes : List ℕ) (start trials : ℕ) (table path : List ℕ) (lent : List Report) {a : Ran} {t p : List ℕ} {reports : List Report}
    (h : IsRun (run j bytes start trials table path lent) a t p reports) where
  -- with more than R trials asked for it answers settled, after R + 1 at the most
  pub run_settles : Accepted j bytes start table path → R j bytes table < trials → trials ≤ 1000 → trials ≤ length lent → (n : ℕ) × (n ≤ R j bytes table + 1) × (a ≡ made_run n true)
  run_settles accepted more few room =
      let (n, within, told) = run_of_more_than_R_trials_settles j bytes start trials table path lent (accepted-runs accepted trials (length lent) (omega arith) few room) more in
      (n, within, ran_one a _ h.answer_is ∙ told)

  -- and with quota 0, at depth 1 or with weight 1/1, after two at the most
  pub run_settles_in_two : Accepted j bytes start table path → j.quota ≡ 0 → (j.depth ≡ 1) ⊎ (j.p ≡ j.q) → 1 < trials → trials ≤ 1000 → trials ≤ length lent
      → (n : ℕ) × (n ≤ 2) × (a ≡ made_run n true)
  run_settles_in_two accepted none which more few room =
      let (n, within, told) = run_with_quota_0_settles_in_two j bytes start trials table path lent (accepted-runs accepted trials (length lent) (omega arith) few room) none which more in
      (n, within, ran_one a _ h.answer_is ∙ told)

  -- where it answers settled, the last record of those that it made is the settled trip's
  pub settled_run_ends : (n : ℕ) → a ≡ made_run n true → (i : ℕ) × (n ≡ suc i) × ((d : Report) → Settled j bytes start (get_or reports i d))
  settled_run_ends n e =
      let (accepted, count, settled) = made_run_is_accepted j bytes start trials table path lent n true (sym (ran_one a _ h.answer_is) ∙ e) in
      let c = course_from j bytes start trials table path in
      let x : Lists = record { table = table; path = path } in
      let C = course_comes j bytes start trials x in
      let (i, last, nothing) = C.ends settled in
      let opens = accepted-trial j bytes start table path (ready-run j bytes start table path trials (length lent) accepted).ready in
      let filed : reports ≡ map (report j bytes) (trips j bytes start (length c.rides) x) ++ drop (length (map (report j bytes) c.rides)) lent =
      h.reports_are ∙ ap (λ o. o.reports) (run_is_made j bytes start trials table path lent accepted)
      ∙ ap (λ rs. map (report j bytes) rs ++ drop (length (map (report j bytes) c.rides)) lent) C.makes in (
        i,
        sym count ∙ last,
        λ d. subst (Settled j bytes start)
            (sym (ap (λ rs. get_or rs i d) filed ∙ record_at_lem j bytes start (drop (length (map (report j bytes) c.rides)) lent) d (length c.rides) i x (omega arith)))
            (record {
              nothing = nothing;
              cheapest = settled_trip_is_cheapest j bytes start table path opens i nothing;
              at_most = settled_trip_costs_at_most j bytes start table path opens i nothing;
              all_kept = settled_trip_keeps_its_way j bytes start table path opens i nothing;
            }),
      )

-- ---- `trial`, and once more from what it left

module _ (j : Job) (bytes : List ℕ) (start : ℕ) (table path : List ℕ) {r : Report} {t p : List ℕ} (h : IsTrial (trial j bytes start table path) (Ok r) t p) where
  abbrev o : Ride
  o = ride j bytes start table path

  told : (open_trial j bytes start table path ≡ Ok tt) × (report j bytes o ≡ r)
  told = made_is_accepted j bytes start table path r (sym (tried_one (Ok r) (trial j bytes start table path).answer h.answer_is))

  t_is : t ≡ o.table
  t_is = h.table_is ∙ ap (λ o. o.table) (trial_is_made j bytes start table path told.0)

  p_is : p ≡ o.path
  p_is = h.path_is ∙ ap (λ o. o.path) (trial_is_made j bytes start table path told.0)

  -- what it learned is taken from R: so at most R trials learn, however many are made
  pub R-falls : R j bytes t + r.learned ≡ R j bytes table
  R-falls =
      omega (arith, R_falls_by_what_is_learned j bytes start table path told.0, ap (R j bytes) t_is, ap (λ (r : Report). r.learned) told.1)

  module _ {a : Tried} {t' p' : List ℕ} (k : IsTrial (trial j bytes start t p) a t' p') where
    abbrev o' : Ride
    o' = ride j bytes start o.table o.path

    next : IsTrial (record { answer = Ok (report j bytes o'); table = o'.table; path = o'.path }) a t' p'
    next =
        subst (λ v. IsTrial v a t' p') (trial_is_made j bytes start o.table o.path (trial_stays_accepted j bytes start table path told.0))
        (subst (λ q. IsTrial (trial j bytes start o.table q) a t' p') p_is (subst (λ q. IsTrial (trial j bytes start q p) a t' p') t_is k))

    -- a trial that learned nothing is made again: the same record, and both lists left as they are
    pub settled_trial_is_made_again : r.learned ≡ 0 → (a ≡ Ok r) × (t ≡ table) × (t' ≡ t) × (p' ≡ p)
    settled_trial_is_made_again nothing =
        let none : o.learned ≡ 0 = ap (λ (r : Report). r.learned) told.1 ∙ nothing in
        let same : o' ≡ o = same_again j bytes start (record { table = table; path = path }) told.0 none in (
          tried_one a _ next.answer_is ∙ ap (λ q. Ok (report j bytes q)) same ∙ ap Ok told.1,
          t_is ∙ learning_nothing_changes_nothing j bytes start table path told.0 none,
          next.table_is ∙ ap (λ q. q.table) same ∙ sym t_is,
          next.path_is ∙ ap (λ q. q.path) same ∙ sym p_is,
        )

    -- with quota 0, at depth 1 or with weight 1/1, the second learns nothing, whatever the first did
    pub second_trial_learns_nothing : j.quota ≡ 0 → (j.depth ≡ 1) ⊎ (j.p ≡ j.q) → (r' : Report) × (a ≡ Ok r') × (r'.learned ≡ 0)
    second_trial_learns_nothing none which =
        (report j bytes o', tried_one a _ next.answer_is, with_quota_0_the_second_trip_is_final j bytes start table path told.0 none which)
