-- Document 02 on settling: "Stores ask how many training trips to plan. Show that from an accepted job, trials made one after another settle within R + 1, that at most
-- R of them learn (R taken at the first trial's start), and that with weight 1/1 the settled trip is a cheapest one. With several goals it is the cheapest to any."
-- A theorem for each of these, of the model's own trials and runs. "Accepted" is the opening's own answer; R, `distance` and the rest are Demand's, of several goals to
-- the nearest.
use Prim.Native.Nat.{ℕ, zero, suc, ◌+◌, ◌*◌, ◌≤◌, ◌<◌}
use mathlib.Core.Path.{◌≡◌, refl, sym, ap, ◌∙◌, subst}
use mathlib.Core.Bool.{Bool, true, false}
use mathlib.Core.Logic.{◌⊎◌}
use mathlib.Core.List.{List, ◌∷◌}
use native.Mathlib.Decide.{ℕ_discrete}
use native.Mathlib.Omega.{arith}
use borrow.Author.Tests.{eqb-true, eqb-false}
use lib.Dec.{T, eqb}
use lib.ListN.{length}
use Rattle.learning.specs.Walk.{Walk, Any}
use Rattle.learning.specs.Ground.{dist_of}
use Rattle.learning.proofs.Trials.{keeps-opened}
use Rattle.learning.proofs.Bounds.{trial-learns}
use Rattle.learning.proofs.Travel.{settled-cheapest}
use Rattle.learning.proofs.Settles.{trial_still, settled-kept}
use Rattle.learning.proofs.OneTrial.{second_trial_learns_nothing}
use Rattle.learning.proofs.Rounds.{rounds_last, rounds_still, rounds-ready, learners_few, one_learns_nothing}
use Rattle.answers.specs.declared.Job.{Job}
use Rattle.answers.specs.declared.Report.{Report}
use Rattle.answers.specs.Outcomes.{made_run}
use Rattle.std.specs.Prelude.{Ok}
use Rattle.model.specs.Decision.{at_goal}
use Rattle.model.specs.Opening.{open_trial, open_run}
use Rattle.model.specs.Ride.{Ride, ride, kept, Course, course_from, run}
use Rattle.model.specs.Settling.{Lists, trip_from, leaves, learns, lists_after, trip, trips, trips_that_learn, answer_after, Tour, tour_on, first_learns, tour_trips_that_learn}
use Rattle.model.proofs.Openings.{Ready, ready, ready-run, accepted-trial}
use Rattle.model.proofs.Soundness.{reaches_of}
use Rattle.model.proofs.Meaning.{net, distance_means}
use Rattle.model.proofs.Rides.{ride_riding, ride_arrives, ready_after, course_none, course_settled, course_again}
use Rattle.model.proofs.Lent.{ride_again, answers_again}
use Rattle.model.proofs.Demand.{distance, R, R_is, trial_stays_accepted, trial_that_learns_nothing_travels_at_most, run_is_made}

-- ---- one trial from an accepted job

module _ (j : Job) (bytes : List ℕ) (start : ℕ) (table path : List ℕ) (accepted : open_trial j bytes start table path ≡ Ok tt) where
  A : Ready j bytes start table path
  A = ready j bytes start table path accepted

  -- what it learns is taken from R
  pub R_falls_by_what_is_learned : R j bytes (ride j bytes start table path).table + (ride j bytes start table path).learned ≡ R j bytes table
  R_falls_by_what_is_learned =
      let L = A.opened.held.lawful in
      omega (
        arith,
        R_is j bytes table,
        R_is j bytes (ride j bytes start table path).table,
        trial-learns L (ride_riding j bytes start table path A).made (keeps-opened L start table A.opened.sound A.opened.reach),
      )

  -- and the lists that it leaves are accepted from every other start that was: so trips from several starts take from one R
  pub other_starts_stay_accepted : (other : ℕ) → open_trial j bytes other table path ≡ Ok tt
      → open_trial j bytes other (ride j bytes start table path).table (ride j bytes start table path).path ≡ Ok tt
  other_starts_stay_accepted other e =
      let B = ready j bytes other table path e in
      let after = ready_after j bytes start table path A in
      accepted-trial j bytes other _ _ (record {
        opened = record {
          held = after.opened.held;
          long = after.opened.long;
          free-start = B.opened.free-start;
          fits = after.opened.fits;
          sound = after.opened.sound;
          reach = B.opened.reach;
        };
        room = after.room;
      })

  module _ (nothing : (ride j bytes start table path).learned ≡ 0) where
    -- one that learns nothing leaves every figure as it was
    pub learning_nothing_changes_nothing : (ride j bytes start table path).table ≡ table
    learning_nothing_changes_nothing = trial_still (ride_riding j bytes start table path A).made nothing

    -- the way that it keeps is all the way that it travels: no loop, no backing out
    pub learning_nothing_keeps_its_way : kept j bytes (ride j bytes start table path) ≡ (ride j bytes start table path).travel
    unfolding kept
    learning_nothing_keeps_its_way = settled-kept A.opened.held.lawful A.opened.sound A.opened.reach (ride_riding j bytes start table path A).made nothing

    -- "with weight 1/1 the settled trip is a cheapest one"
    pub learning_nothing_is_cheapest : j.p ≡ j.q → (ride j bytes start table path).travel ≡ distance j bytes start
    unfolding dist_of
    learning_nothing_is_cheapest w =
        settled-cheapest A.opened.held.lawful A.opened.sound A.opened.reach (ride_riding j bytes start table path A).made
        (subst T (sym (ride_arrives j bytes start table path A)) tt) w nothing

-- ---- trials one after another

module _ (j : Job) (bytes : List ℕ) (start : ℕ) where
  abbrev Accepted : Lists → Type 0
  Accepted x = open_trial j bytes start x.table x.path ≡ Ok tt

  abbrev left_to_learn : Lists → ℕ
  left_to_learn x = R j bytes x.table

  on : (x : Lists) → Accepted x → Accepted (leaves j bytes start x)
  on x = trial_stays_accepted j bytes start x.table x.path

  falls : (x : Lists) → Accepted x → left_to_learn (leaves j bytes start x) + learns j bytes start x ≡ left_to_learn x
  falls x = R_falls_by_what_is_learned j bytes start x.table x.path

  -- a trial that learns nothing leaves lists from which the same trial is made again
  pub same_again : (x : Lists) → Accepted x → learns j bytes start x ≡ 0 → trip_from j bytes start (leaves j bytes start x) ≡ trip_from j bytes start x
  same_again x e z =
      ap (λ t. ride j bytes start t (trip_from j bytes start x).path) (learning_nothing_changes_nothing j bytes start x.table x.path e z)
      ∙ ride_again j bytes start x.table x.path (ready j bytes start x.table x.path e)

  -- and whatever is the same of the lists lent and of those left is the same of all later ones
  same_later : {X : Type 0} (of : Lists → X) (i k : ℕ) (x : Lists) → Accepted (lists_after j bytes start i x) → (trip j bytes start i x).learned ≡ 0
      → of (leaves j bytes start (lists_after j bytes start i x)) ≡ of (lists_after j bytes start i x) → i ≤ k → of (lists_after j bytes start k x) ≡ of (lists_after j bytes start i x)
  same_later of i k x e z again h = by (ℕ_discrete i k)
    where
      one : lists_after j bytes start (suc i) x ≡ leaves j bytes start (lists_after j bytes start i x)
      one = rounds_last (leaves j bytes start) i x

      still : leaves j bytes start (lists_after j bytes start (suc i) x) ≡ lists_after j bytes start (suc i) x
      still = ap (leaves j bytes start) one ∙ ap (λ (r : Ride). record { table = r.table; path = r.path }) (same_again (lists_after j bytes start i x) e z) ∙ sym one

      by : Dec (i ≡ k) → of (lists_after j bytes start k x) ≡ of (lists_after j bytes start i x)
      by (yes q) = ap (λ (n : ℕ). of (lists_after j bytes start n x)) (sym q)
      by (no q) = ap of (rounds_still (leaves j bytes start) (suc i) k x (omega arith) still ∙ one) ∙ again

  module _ (table path : List ℕ) (accepted : open_trial j bytes start table path ≡ Ok tt) where
    abbrev lent : Lists
    lent = record { table = table; path = path }

    -- each of them is accepted
    pub each_is_accepted : (i : ℕ) → open_trial j bytes start (lists_after j bytes start i lent).table (lists_after j bytes start i lent).path ≡ Ok tt
    each_is_accepted i = rounds-ready (leaves j bytes start) (learns j bytes start) left_to_learn Accepted on falls i lent accepted

    -- "at most R of them learn (R taken at the first trial's start)"
    pub at_most_R_trials_learn : (n : ℕ) → trips_that_learn j bytes start n lent ≤ R j bytes table
    at_most_R_trials_learn n = omega (arith, learners_few (leaves j bytes start) (learns j bytes start) left_to_learn Accepted on falls n lent accepted)

    -- "trials made one after another settle within R + 1": one of the first R + 1 learns nothing
    pub one_of_R_and_1_learns_nothing : (i : ℕ) × (i < R j bytes table + 1) × ((trip j bytes start i lent).learned ≡ 0)
    one_of_R_and_1_learns_nothing =
        one_learns_nothing (leaves j bytes start) (learns j bytes start) left_to_learn Accepted on falls (R j bytes table + 1) lent accepted (omega arith)

    module _ (i : ℕ) (settled : (trip j bytes start i lent).learned ≡ 0) where
      abbrev begun_with : Lists
      begun_with = lists_after j bytes start i lent

      -- and every later one is the same trial: its state and lists, its counts and its moves
      pub later_trials_are_the_same : (k : ℕ) → i ≤ k → trip j bytes start k lent ≡ trip j bytes start i lent
      later_trials_are_the_same k h =
          same_later (trip_from j bytes start) i k lent (each_is_accepted i) settled (same_again begun_with (each_is_accepted i) settled) h

      -- decision by decision
      pub later_decisions_are_the_same : (k n : ℕ) → i ≤ k → answer_after j bytes start n (lists_after j bytes start k lent) ≡ answer_after j bytes start n begun_with
      later_decisions_are_the_same k n h =
          same_later (answer_after j bytes start n) i k lent (each_is_accepted i) settled
          (ap (λ t. answer_after j bytes start n (record { table = t; path = (trip j bytes start i lent).path }))
          (learning_nothing_changes_nothing j bytes start begun_with.table begun_with.path (each_is_accepted i) settled)
          ∙ answers_again j bytes start begun_with.table begun_with.path (ready j bytes start begun_with.table begun_with.path (each_is_accepted i)) n) h

      -- "with weight 1/1 the settled trip is a cheapest one"
      pub settled_trip_is_cheapest : j.p ≡ j.q → (trip j bytes start i lent).travel ≡ distance j bytes start
      settled_trip_is_cheapest = learning_nothing_is_cheapest j bytes start begun_with.table begun_with.path (each_is_accepted i) settled

      -- "With several goals it is the cheapest to any": no walk to any of them costs less
      pub no_way_to_any_goal_is_cheaper : j.p ≡ j.q → (z c n : ℕ) → at_goal j bytes z ≡ true → Walk (net j bytes) Any start z c n → (trip j bytes start i lent).travel ≤ c
      no_way_to_any_goal_is_cheaper w z c n g way =
          let reach = (ready j bytes start table path accepted).opened.reach in
          omega (arith, settled_trip_is_cheapest w, (distance_means j bytes start (reaches_of j bytes start reach)).low c (z, subst T (sym g) tt, (n, way)))

      -- with any weight it costs at most q / p times that, and all of it is kept
      pub settled_trip_costs_at_most : j.p * (trip j bytes start i lent).travel ≤ j.q * distance j bytes start
      settled_trip_costs_at_most = trial_that_learns_nothing_travels_at_most j bytes start begun_with.table begun_with.path (each_is_accepted i) settled

      pub settled_trip_keeps_its_way : kept j bytes (trip j bytes start i lent) ≡ (trip j bytes start i lent).travel
      settled_trip_keeps_its_way = learning_nothing_keeps_its_way j bytes start begun_with.table begun_with.path (each_is_accepted i) settled

    -- so after R trips of training none learns any more, and all are one
    pub after_R_trips_all_are_one : (k : ℕ) → R j bytes table ≤ k → ((trip j bytes start k lent).learned ≡ 0) × (trip j bytes start k lent ≡ trip j bytes start (R j bytes table) lent)
    after_R_trips_all_are_one k h =
        let (i, l, z) = one_of_R_and_1_learns_nothing in
        let last = later_trials_are_the_same i z (R j bytes table) (omega arith) in
        let now = later_trials_are_the_same i z k (omega arith) in
        (ap (λ r. r.learned) now ∙ z, now ∙ sym last)

    -- The paper's Theorem 7.8, "the second trial of LRTS(T=0) .. is guaranteed to be final", where it holds: at depth 1, and with weight 1/1.
    -- (`ThirdTrial` of worked has a job of depth 2 and weight 1/10 that needs a third.)
    pub with_quota_0_the_second_trip_is_final : j.quota ≡ 0 → (j.depth ≡ 1) ⊎ (j.p ≡ j.q) → (trip j bytes start 1 lent).learned ≡ 0
    with_quota_0_the_second_trip_is_final none which =
        let first = ready j bytes start table path accepted in
        let second = ready j bytes start (lists_after j bytes start 1 lent).table (lists_after j bytes start 1 lent).path (each_is_accepted 1) in
        second_trial_learns_nothing first.opened.held.lawful none which first.opened.sound first.opened.reach (ride_riding j bytes start table path first).made
        (subst T (sym (ride_arrives j bytes start table path first)) tt)
        (ride_riding j bytes start (lists_after j bytes start 1 lent).table (lists_after j bytes start 1 lent).path second).made

-- ---- trips from several starts

module _ (j : Job) (bytes : List ℕ) where
  abbrev AllAccepted : Tour → Type 0
  AllAccepted x = (m : ℕ) → open_trial j bytes (x.starts m) x.lists.table x.lists.path ≡ Ok tt

  -- wherever they start, at most R of them learn
  pub at_most_R_trips_learn_wherever_they_start : (table path : List ℕ) (starts : ℕ → ℕ) → ((m : ℕ) → open_trial j bytes (starts m) table path ≡ Ok tt)
      → (n : ℕ) → tour_trips_that_learn j bytes n (record { lists = record { table = table; path = path }; starts = starts }) ≤ R j bytes table
  at_most_R_trips_learn_wherever_they_start table path starts accepted n =
      omega (
        arith,
        learners_few (tour_on j bytes) (first_learns j bytes) (λ x. R j bytes x.lists.table) AllAccepted
            (λ x e m. other_starts_stay_accepted j bytes (x.starts 0) x.lists.table x.lists.path (e 0) (x.starts (suc m)) (e (suc m)))
            (λ x e. R_falls_by_what_is_learned j bytes (x.starts 0) x.lists.table x.lists.path (e 0)) n
            (record { lists = record { table = table; path = path }; starts = starts }) accepted,
      )

-- ---- a run

-- What a run that asks for so many trials comes to.
pub record Comes (j : Job) (bytes : List ℕ) (start trials : ℕ) (lent : Lists) (c : Course) : Type 0 where
  -- its trials are these, one after another
  pub makes : c.rides ≡ trips j bytes start (length c.rides) lent
  -- it is settled only where the last of them learned nothing
  pub ends : c.settled ≡ true → (i : ℕ) × (length c.rides ≡ suc i) × ((trip j bytes start i lent).learned ≡ 0)
  -- and by the first of them that learns nothing it is
  pub by_then : (i : ℕ) → i < trials → (trip j bytes start i lent).learned ≡ 0 → (c.settled ≡ true) × (length c.rides ≤ suc i)

module _ (j : Job) (bytes : List ℕ) (start : ℕ) where
  pub course_comes : (trials : ℕ) (x : Lists) → Comes j bytes start trials x (course_from j bytes start trials x.table x.path)
  course_comes zero x = subst (Comes j bytes start zero x) (sym (course_none j bytes start x.table x.path))
      (record { makes = refl; ends = λ s. let z : ◌≡◌ {A = ℕ} 0 1 = cc in absurd (omega arith); by_then = λ i h z. absurd (omega arith) })
  course_comes (suc k) x = by (eqb r.learned 0) refl (course_comes k (leaves j bytes start x))
    where
      r : Ride
      r = trip_from j bytes start x

      by : (b : Bool) → eqb r.learned 0 ≡ b → Comes j bytes start k (leaves j bytes start x) (course_from j bytes start k r.table r.path)
          → Comes j bytes start (suc k) x (course_from j bytes start (suc k) x.table x.path)
      by true q C = subst (Comes j bytes start (suc k) x) (sym (course_settled j bytes start k x.table x.path q))
          (record { makes = refl; ends = λ s. (0, refl, eqb-true r.learned 0 q); by_then = λ i h z. (refl, omega arith) })
      by false q C = subst (Comes j bytes start (suc k) x) (sym (course_again j bytes start k x.table x.path q))
          (record { makes = ap (λ rs. r ∷ rs) C.makes; ends = λ s. let (i, l, z) = C.ends s in (suc i, ap suc l, z); by_then = later })
        where
          later : (i : ℕ) → i < suc k → (trip j bytes start i x).learned ≡ 0
              → ((course_from j bytes start k r.table r.path).settled ≡ true) × (suc (length (course_from j bytes start k r.table r.path).rides) ≤ suc i)
          later zero h z = absurd (eqb-false r.learned 0 q z)
          later (suc i) h z = let (s, l) = C.by_then i (omega arith) z in (s, omega arith)

  module _ (trials : ℕ) (table path : List ℕ) (reports : List Report) (accepted : open_run j bytes start table path trials (length reports) ≡ Ok tt) where
    abbrev from : Lists
    from = record { table = table; path = path }

    opens : open_trial j bytes start table path ≡ Ok tt
    opens = accepted-trial j bytes start table path (ready-run j bytes start table path trials (length reports) accepted).ready

    run_settles_by : (i : ℕ) → i < trials → (trip j bytes start i from).learned ≡ 0 → (n : ℕ) × (n ≤ suc i) × ((run j bytes start trials table path reports).answer ≡ made_run n true)
    run_settles_by i h z =
        let n = length (course_from j bytes start trials table path).rides in
        let (settled, few) = (course_comes trials from).by_then i h z in
        (n, few, ap (λ o. o.answer) (run_is_made j bytes start trials table path reports accepted) ∙ ap (made_run n) settled)

    -- with more than R trials asked for `run` answers settled, after R + 1 at the most
    pub run_of_more_than_R_trials_settles : R j bytes table < trials → (n : ℕ) × (n ≤ R j bytes table + 1) × ((run j bytes start trials table path reports).answer ≡ made_run n true)
    run_of_more_than_R_trials_settles h =
        let (i, l, z) = one_of_R_and_1_learns_nothing j bytes start table path opens in
        let (n, few, told) = run_settles_by i (omega arith) z in
        (n, omega arith, told)

    -- and with quota 0, at depth 1 or with weight 1/1, with more than one asked for, after two at the most
    pub run_with_quota_0_settles_in_two : j.quota ≡ 0 → (j.depth ≡ 1) ⊎ (j.p ≡ j.q) → 1 < trials
        → (n : ℕ) × (n ≤ 2) × ((run j bytes start trials table path reports).answer ≡ made_run n true)
    run_with_quota_0_settles_in_two none which h = run_settles_by 1 h (with_quota_0_the_second_trip_is_final j bytes start table path opens none which)
