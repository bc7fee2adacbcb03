-- Demand 3 of the mission, of the model's own decisions, trials and runs: one theorem for each sentence, which stands above it.
-- "Any accepted job" is the model's own acceptance: `open_job`, `open_trial` or `open_run` is done. Nothing else is assumed.
-- What `distances`, `reaches` and the rest mean is proved in Meaning.
use Prim.Native.Nat.{ℕ, suc, ◌+◌, ◌-◌, ◌*◌, ◌/◌, ◌≤◌, ◌<◌}
use mathlib.Core.Path.{◌≡◌, refl, sym, ap, ap₂, ◌∙◌, subst}
use mathlib.Core.Bool.{Bool, true, false}
use mathlib.Core.List.{List, [], ◌∷◌, map}
use native.Mathlib.Nat.{le_refl, mul-add}
use native.Mathlib.Omega.{arith}
use lib.Dec.{T}
use lib.ListN.{length, get_or}
use Rattle.learning.specs.Walk.{Walk, Any}
use Rattle.learning.specs.Path.{total, most}
use Rattle.learning.specs.Trial.{Sound, left, factor}
use Rattle.learning.specs.Ground.{pick, net_of, dist_in, dist_of}
use Rattle.learning.proofs.Sums.{total_same, most_same}
use Rattle.learning.proofs.Bounds.{kept-bound, settled-travel}
use Rattle.answers.specs.declared.Job.{Job}
use Rattle.answers.specs.declared.State.{State}
use Rattle.answers.specs.declared.Refusal.{Refusal}
use Rattle.answers.specs.declared.Report.{Report}
use Rattle.answers.specs.declared.Place.TheVariants as P
use Rattle.answers.specs.declared.Made.{Made}
use Rattle.answers.specs.Outcomes.{Verdict, made_run}
use Rattle.std.specs.Prelude.{Ok, Err}
use Rattle.model.specs.Basics.{member, refuse_at}
use Rattle.model.specs.Floor.{size}
use Rattle.model.specs.Checks.{floor_of, goals, ground_in}
use Rattle.model.specs.Opening.{distances, reaches, true_figure, soundness, open_job, open_trial, open_run}
use Rattle.model.specs.Decision.{at_goal, decide}
use Rattle.model.specs.Ride.{Ride, begun, ride_from, learning_job, bound, ride, ride_by, kept, report, trial_of, trial, trial_by, Course, course_from, filed_in, run_of, run, run_by}
use Rattle.model.proofs.Openings.{opened, accepted, ready, accepted-trial, ready-run}
use Rattle.model.proofs.Accepted.{never}
use Rattle.model.proofs.Moves.{is_true}
use Rattle.model.proofs.Refusals.{turn_of, NothingAhead, Ends, IsOpening, ends_with_soundness}
use Rattle.model.proofs.Soundness.{Above, Lowest, reaches_of, reaches_means, six_is, six_means, seven_is, seven_means}
use Rattle.model.proofs.Rides.{riding_begun, riding_from, ride_riding, decisions-low, keeps, ready_after, Rides, over, trip, course_rides}
use Rattle.model.proofs.Driven.{Drives, trial_ends_at_a_bench, trial_drives_to_a_bench}
use Rattle.model.proofs.KeptWay.{KeptWay, trial_keeps_a_way}
use Rattle.model.proofs.Tables.{act-high, act-opened, decide-table, ride-high, course_high, course_ready}

-- ---- the mission's words

-- the cheapest distance to the bench, where there are several to the nearest; its true figure, q times that; and whether a bench can be reached
abbrev pub distance : Job → List ℕ → ℕ → ℕ
distance j bytes x = dist_in (ground_in j bytes) (distances j bytes) x

abbrev pub true_of : Job → List ℕ → ℕ → ℕ
true_of j bytes x = true_figure j bytes (distances j bytes) x

abbrev pub can : Job → List ℕ → ℕ → Bool
can j bytes x = reaches j bytes (distances j bytes) x

-- "R is the sum, at the trial's start, of true figure less stored figure over all cells that can reach the bench"
unfoldable pub R : Job → List ℕ → (table : List ℕ) → ℕ
R j bytes table = total (size (floor_of j bytes)) (λ x. pick (can j bytes x) (true_of j bytes x - get_or table x 0) 0)

-- "K is 1 more than how many whole times 10p goes into the largest true figure among those cells"
unfoldable pub K : Job → List ℕ → ℕ
K j bytes = suc (most (size (floor_of j bytes)) (λ x. pick (can j bytes x) (true_of j bytes x) 0) / (10 * j.p))

-- they are those of the rides' bound: a cell that cannot reach the bench counts as 0 there
none_left : (b : Bool) (q v f : ℕ) → pick b (q * pick b v 0 - f) 0 ≡ q * pick b v 0 - f
none_left true q v f = refl
none_left false q v f = omega arith

none_true : (b : Bool) (q v : ℕ) → pick b (q * pick b v 0) 0 ≡ q * pick b v 0
none_true true q v = refl
none_true false q v = omega arith

pub R_is : (j : Job) (bytes table : List ℕ) → R j bytes table ≡ left (learning_job j bytes) table
unfolding R dist_of
R_is j bytes table = total_same (size (floor_of j bytes)) _ _ (λ x h. none_left (can j bytes x) j.q _ (get_or table x 0))

K_is : (j : Job) (bytes : List ℕ) → K j bytes ≡ factor (learning_job j bytes)
unfolding K dist_of
K_is j bytes = ap (λ (m : ℕ). suc (m / (10 * j.p))) (most_same (size (floor_of j bytes)) _ _ (λ x h. none_true (can j bytes x) j.q _))

pub bound_is : (j : Job) (bytes table : List ℕ) → bound j bytes table ≡ K j bytes * (R j bytes table + 1)
unfolding bound
bound_is j bytes table = sym (ap₂ (λ k r. k * (r + 1)) (K_is j bytes) (R_is j bytes table))

true-high : (j : Job) (bytes : List ℕ) {table : List ℕ} → Sound (learning_job j bytes) table → (x : ℕ) → can j bytes x ≡ true → get_or table x 0 ≤ true_of j bytes x
unfolding dist_of
true-high j bytes S x e = S.low x (reaches_means j bytes x e)

-- ---- "Take any accepted job with weight p/q."

-- there is something to say it of: a trial from an accepted job is made, and its record and lists are those of its ride
pub trial_is_made : (j : Job) (bytes : List ℕ) (start : ℕ) (table path : List ℕ) → open_trial j bytes start table path ≡ Ok tt
    → trial j bytes start table path
    ≡ record { answer = Ok (report j bytes (ride j bytes start table path)); table = (ride j bytes start table path).table; path = (ride j bytes start table path).path }
unfolding trial_by
trial_is_made j bytes start table path e = ap (λ v. trial_of v j bytes (ride j bytes start table path) table path) e

-- and no other: where a trial is made, its job was accepted
pub made_is_accepted : (j : Job) (bytes : List ℕ) (start : ℕ) (table path : List ℕ) (r : Report) → (trial j bytes start table path).answer ≡ Ok r
    → (open_trial j bytes start table path ≡ Ok tt) × (report j bytes (ride j bytes start table path) ≡ r)
unfolding trial_by
made_is_accepted j bytes start table path r = by (open_trial j bytes start table path)
  where
    by : (v : Verdict) → (trial_of v j bytes (ride j bytes start table path) table path).answer ≡ Ok r → (v ≡ Ok tt) × (report j bytes (ride j bytes start table path) ≡ r)
    by (Ok _) e = let f : report j bytes (ride j bytes start table path) ≡ r = cc in (refl, f)
    by (Err q) e = let z : ◌≡◌ {A = ℕ} 0 1 = cc in absurd (omega arith)

-- and a run: its records are those of its rides
pub run_is_made : (j : Job) (bytes : List ℕ) (start trials : ℕ) (table path : List ℕ) (reports : List Report)
    → open_run j bytes start table path trials (length reports) ≡ Ok tt
    → run j bytes start trials table path reports
    ≡ record {
      answer = made_run (length (course_from j bytes start trials table path).rides) (course_from j bytes start trials table path).settled;
      table = (course_from j bytes start trials table path).table;
      path = (course_from j bytes start trials table path).path;
      reports = filed_in (map (report j bytes) (course_from j bytes start trials table path).rides) reports;
    }
unfolding run_by
run_is_made j bytes start trials table path reports e = ap (λ v. run_of v j bytes (course_from j bytes start trials table path) table path reports) e

pub made_run_is_accepted : (j : Job) (bytes : List ℕ) (start trials : ℕ) (table path : List ℕ) (reports : List Report) (n : ℕ) (b : Bool)
    → (run j bytes start trials table path reports).answer ≡ made_run n b
    → (open_run j bytes start table path trials (length reports) ≡ Ok tt) × (length (course_from j bytes start trials table path).rides ≡ n)
    × ((course_from j bytes start trials table path).settled ≡ b)
unfolding run_by
made_run_is_accepted j bytes start trials table path reports n b = by (open_run j bytes start table path trials (length reports))
  where
    c : Course
    c = course_from j bytes start trials table path

    by : (v : Verdict) → (run_of v j bytes c table path reports).answer ≡ made_run n b → (v ≡ Ok tt) × (length c.rides ≡ n) × (c.settled ≡ b)
    by (Ok _) e =
        let made : ◌≡◌ {A = Made} (record { trials = length c.rides; settled = c.settled }) (record { trials = n; settled = b }) = cc in
        (refl, ap (λ m. m.trials) made, ap (λ m. m.settled) made)
    by (Err q) e = let z : ◌≡◌ {A = ℕ} 0 1 = cc in absurd (omega arith)

-- each of its rides is an accepted trial
pub run_trials_are_accepted : (j : Job) (bytes : List ℕ) (start trials : ℕ) (table path : List ℕ) (records : ℕ) → open_run j bytes start table path trials records ≡ Ok tt
    → Rides j bytes start table path (course_from j bytes start trials table path).rides
run_trials_are_accepted j bytes start trials table path records e = course_rides j bytes start trials table path (ready-run j bytes start table path trials records e).ready

-- an accepted job stays accepted: after any decision, from whatever state; after a trial; after a run
pub decision_stays_accepted : (j : Job) (bytes : List ℕ) (start : ℕ) (s : State) (table path moves : List ℕ) (from : ℕ) → open_job j bytes start table ≡ Ok tt
    → open_job j bytes start (decide j bytes s table path moves from).table ≡ Ok tt
decision_stays_accepted j bytes start s table path moves from e =
    decide-table j bytes s table path (λ t. open_job j bytes start t ≡ Ok tt) moves from e
    (accepted j bytes start _ (act-opened j bytes s table path (opened j bytes start table e)))

pub trial_stays_accepted : (j : Job) (bytes : List ℕ) (start : ℕ) (table path : List ℕ) → open_trial j bytes start table path ≡ Ok tt
    → open_trial j bytes start (ride j bytes start table path).table (ride j bytes start table path).path ≡ Ok tt
trial_stays_accepted j bytes start table path e = accepted-trial j bytes start _ _ (ready_after j bytes start table path (ready j bytes start table path e))

pub run_stays_accepted : (j : Job) (bytes : List ℕ) (start trials : ℕ) (table path : List ℕ) (records : ℕ) → open_run j bytes start table path trials records ≡ Ok tt
    → open_trial j bytes start (course_from j bytes start trials table path).table (course_from j bytes start trials table path).path ≡ Ok tt
run_stays_accepted j bytes start trials table path records e =
    accepted-trial j bytes start _ _ (course_ready j bytes start trials table path (ready-run j bytes start table path trials records e).ready)

-- ---- "No cell's figure ever falls"

pub no_figure_falls_in_a_decision : (j : Job) (bytes : List ℕ) (s : State) (table path moves : List ℕ) (from x : ℕ)
    → get_or table x 0 ≤ get_or (decide j bytes s table path moves from).table x 0
no_figure_falls_in_a_decision j bytes s table path moves from x =
    decide-table j bytes s table path (λ t. get_or table x 0 ≤ get_or t x 0) moves from (le_refl (get_or table x 0)) (act-high j bytes s table path x)

-- after any number n of a trial's decisions; the whole trial is one of these
pub no_figure_falls_in_a_trial : (j : Job) (bytes : List ℕ) (start : ℕ) (table path : List ℕ) (n x : ℕ)
    → get_or table x 0 ≤ get_or (ride_from j bytes n (begun start table path)).table x 0
no_figure_falls_in_a_trial j bytes start table path n x = ride-high j bytes n (begun start table path) x

pub no_figure_falls_in_a_run : (j : Job) (bytes : List ℕ) (start trials : ℕ) (table path : List ℕ) (x : ℕ)
    → get_or table x 0 ≤ get_or (course_from j bytes start trials table path).table x 0
no_figure_falls_in_a_run j bytes start trials table path x = course_high j bytes start trials table path x

-- ---- "or, where the bench can be reached from it, passes its true figure, q times the cheapest distance to the bench."

pub no_figure_passes_truth_in_a_decision : (j : Job) (bytes : List ℕ) (start : ℕ) (s : State) (table path moves : List ℕ) (from : ℕ) → open_job j bytes start table ≡ Ok tt
    → (x : ℕ) → can j bytes x ≡ true → get_or (decide j bytes s table path moves from).table x 0 ≤ true_of j bytes x
no_figure_passes_truth_in_a_decision j bytes start s table path moves from e =
    true-high j bytes (opened j bytes start _ (decision_stays_accepted j bytes start s table path moves from e)).sound

pub no_figure_passes_truth_in_a_trial : (j : Job) (bytes : List ℕ) (start : ℕ) (table path : List ℕ) → open_trial j bytes start table path ≡ Ok tt
    → (n x : ℕ) → can j bytes x ≡ true → get_or (ride_from j bytes n (begun start table path)).table x 0 ≤ true_of j bytes x
no_figure_passes_truth_in_a_trial j bytes start table path e n =
    let A = ready j bytes start table path e in
    true-high j bytes (keeps j bytes start table path A (riding_from j bytes start table path A n (begun start table path) (riding_begun j bytes start table path A))).sound

pub no_figure_passes_truth_in_a_run : (j : Job) (bytes : List ℕ) (start trials : ℕ) (table path : List ℕ) (records : ℕ) → open_run j bytes start table path trials records ≡ Ok tt
    → (x : ℕ) → can j bytes x ≡ true → get_or (course_from j bytes start trials table path).table x 0 ≤ true_of j bytes x
no_figure_passes_truth_in_a_run j bytes start trials table path records e =
    true-high j bytes (course_ready j bytes start trials table path (ready-run j bytes start table path trials records e).ready).opened.sound

-- ---- of a trial

module _ (j : Job) (bytes : List ℕ) (start : ℕ) (table path : List ℕ) (e : open_trial j bytes start table path ≡ Ok tt) where
  -- "Every trial reaches the bench in fewer than K × (R + 1) decisions."
  pub trial_reaches_the_bench : (member (ride j bytes start table path).state.current (goals j) ≡ true) × ((ride j bytes start table path).decisions < K j bytes * (R j bytes table + 1))
  trial_reaches_the_bench =
      let A = ready j bytes start table path e in (
        trial_ends_at_a_bench j bytes start table path e,
        subst (λ b. (ride j bytes start table path).decisions < b) (bound_is j bytes table) (decisions-low j bytes start table path A (ride_riding j bytes start table path A)),
      )

  -- "The way kept after loops and backing out are struck off costs at most (cheapest distance from the start + quota) × q / p."
  pub kept_way_costs_at_most : j.p * kept j bytes (ride j bytes start table path) ≤ j.q * (distance j bytes start + j.quota)
  unfolding kept dist_of
  kept_way_costs_at_most =
      let A = ready j bytes start table path e in
      omega (
        arith,
        kept-bound A.opened.held.lawful A.opened.sound A.opened.reach (ride_riding j bytes start table path A).made,
        mul-add j.q (distance j bytes start) j.quota,
      )

  -- "A trial that learns nothing travels at most the cheapest distance × q / p, all moves counted."
  pub trial_that_learns_nothing_travels_at_most : (ride j bytes start table path).learned ≡ 0 → j.p * (ride j bytes start table path).travel ≤ j.q * distance j bytes start
  unfolding dist_of
  trial_that_learns_nothing_travels_at_most z =
      let A = ready j bytes start table path e in
      settled-travel A.opened.held.lawful A.opened.sound A.opened.reach (ride_riding j bytes start table path A).made z

-- ---- and so of every trial of a run

-- all that is said above of one trial
pub record Promised (j : Job) (bytes : List ℕ) (start : ℕ) (table path : List ℕ) (r : Ride) : Type 0 where
  pub falls_not : (x : ℕ) → get_or table x 0 ≤ get_or r.table x 0
  pub passes_not : (x : ℕ) → can j bytes x ≡ true → get_or r.table x 0 ≤ true_of j bytes x
  pub reaches_the_bench : member r.state.current (goals j) ≡ true
  pub decisions : r.decisions < K j bytes * (R j bytes table + 1)
  pub kept-way : j.p * kept j bytes r ≤ j.q * (distance j bytes start + j.quota)
  pub learning_nothing : r.learned ≡ 0 → j.p * r.travel ≤ j.q * distance j bytes start
  -- what is kept and travelled: the kept cost is that of the path from the start to the bench, and the travel that of the moves, all counted
  pub keeps_a_way : KeptWay j bytes start r
  pub drives : Drives (floor_of j bytes) start r.moves r.state.current r.travel

-- of trials one after another, each from the lists that the one before it left
pub data EachPromised (j : Job) (bytes : List ℕ) (start : ℕ) : List ℕ → List ℕ → List Ride → Type 0 where
  no_more : {table path : List ℕ} → EachPromised j bytes start table path []
  and_then : {table path : List ℕ} {r : Ride} {rs : List Ride} → Promised j bytes start table path r → EachPromised j bytes start r.table r.path rs
      → EachPromised j bytes start table path (r ∷ rs)

pub trial_is_promised : (j : Job) (bytes : List ℕ) (start : ℕ) (table path : List ℕ) → open_trial j bytes start table path ≡ Ok tt
    → Promised j bytes start table path (ride j bytes start table path)
unfolding ride_by
trial_is_promised j bytes start table path e = record {
  falls_not = no_figure_falls_in_a_trial j bytes start table path (bound j bytes table);
  passes_not = no_figure_passes_truth_in_a_trial j bytes start table path e (bound j bytes table);
  reaches_the_bench = (trial_reaches_the_bench j bytes start table path e).0;
  decisions = (trial_reaches_the_bench j bytes start table path e).1;
  kept-way = kept_way_costs_at_most j bytes start table path e;
  learning_nothing = trial_that_learns_nothing_travels_at_most j bytes start table path e;
  keeps_a_way = trial_keeps_a_way j bytes start table path e;
  drives = trial_drives_to_a_bench j bytes start table path e;
}

pub rides_are_promised : (j : Job) (bytes : List ℕ) (start : ℕ) {table path : List ℕ} {rs : List Ride} → Rides j bytes start table path rs → EachPromised j bytes start table path rs
rides_are_promised j bytes start over = no_more
rides_are_promised j bytes start (trip {table = table} {path = path} e more) = and_then (trial_is_promised j bytes start table path e) (rides_are_promised j bytes start more)

pub run_trials_are_promised : (j : Job) (bytes : List ℕ) (start trials : ℕ) (table path : List ℕ) (records : ℕ) → open_run j bytes start table path trials records ≡ Ok tt
    → EachPromised j bytes start table path (course_from j bytes start trials table path).rides
run_trials_are_promised j bytes start trials table path records e = rides_are_promised j bytes start (run_trials_are_accepted j bytes start trials table path records e)

-- ---- "A refusal for "no way" is given at opening only when no way exists,

module _ (j : Job) (bytes : List ℕ) (start : ℕ) (table : List ℕ) where
  -- no walk leads from the start to a bench
  abbrev pub NoWay : Type 0
  NoWay = (z c n : ℕ) → at_goal j bytes z ≡ true → Walk (net_of (ground_in j bytes)) Any start z c n → ⊥

  -- v is what an opening answers: that of a job, of a trial or of a run
  module _ (v : Verdict) (o : IsOpening j bytes start table v) where
    abbrev ends : Ends 6 (soundness j bytes start table) v
    ends = ends_with_soundness j bytes start table o

    pub refused_for_no_way_only_when_none_exists : (r : Refusal) → v ≡ Err r → r.number ≡ 6 → NoWay
    refused_for_no_way_only_when_none_exists r e six z c n g way =
        six_means j bytes start table (ends.only (omega (arith, ap turn_of six)) e) six (c, (z, subst T (sym g) tt, (n, way)))

    -- and whenever none exists, where nothing ahead of it is refused
    pub refused_for_no_way_when_none_exists : NothingAhead 6 v → NoWay → v ≡ refuse_at 6 P.Nowhere
    refused_for_no_way_when_none_exists h none =
        ends.just h ∙ six_is j bytes start table (λ (c, (z, g, (n, way))). none z c n (is_true _ g) way)

    -- and a table is refused as unsound only when some cell is above its true figure." It names the lowest such cell
    pub refused_as_unsound_only_when_above : (r : Refusal) → v ≡ Err r → r.number ≡ 7 → (x : ℕ) × (r.place ≡ P.Cell x) × Lowest j bytes table x
    unfolding turn_of
    refused_as_unsound_only_when_above r e seven = seven_means j bytes start table (ends.only (omega (arith, ap turn_of seven)) e) seven

    -- and whenever some cell is above it, where nothing ahead of it is refused
    pub refused_as_unsound_when_above : NothingAhead 7 v → (x : ℕ) → Above j bytes table x → (y : ℕ) × (v ≡ refuse_at 7 (P.Cell y)) × Lowest j bytes table y
    unfolding turn_of
    refused_as_unsound_when_above h x above = by (can j bytes start) refl
      where
        is : v ≡ soundness j bytes start table
        is = ends.just (λ r e. omega (arith, h r e))

        by : (b : Bool) → can j bytes start ≡ b → (y : ℕ) × (v ≡ refuse_at 7 (P.Cell y)) × Lowest j bytes table y
        by true t = let (y, e, l) = seven_is j bytes start table (reaches_means j bytes start t) x above in (y, is ∙ e, l)
        by false t = absurd (omega (arith, h _ (is ∙ six_is j bytes start table (λ r. never (reaches_of j bytes start r) t))))
