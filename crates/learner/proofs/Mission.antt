-- Demand 3 of the mission, as a caller of the library may conclude it from what `open`, `trial`, `run` and `decide` promise, and from nothing else.
-- A promise fixes the answer and every list at exit as the model's; so the model's laws (Demand, Driven, KeptWay) are laws of what the calls hand out.
-- The mission's own words are those of Demand: the cheapest `distance` to the bench, of several to the nearest, the true figure `true_of`, whether a cell `can` reach the bench, R and K.
-- Refused and ReadBack say the last sentences of demands 1 and 2 in the same way.
use Prim.Native.Nat.{ℕ, zero, suc, ◌+◌, ◌*◌, ◌≤◌, ◌<◌}
use mathlib.Core.Path.{◌≡◌, refl, sym, ap, ap₂, ◌∙◌, subst, subst₂}
use mathlib.Core.Bool.{Bool, true, false}
use mathlib.Core.List.{List, [], ◌∷◌, ◌++◌, map}
use native.Mathlib.Omega.{arith}
use lib.Dec.{T, eqb}
use lib.ListN.{length, get_or, take, drop, length-map}
use lib.Seq.{take_at, drop_at}
use Rattle.learning.specs.Walk.{Any, Leads}
use Rattle.answers.specs.declared.Job.{Job}
use Rattle.answers.specs.declared.State.{State}
use Rattle.answers.specs.declared.Decided.{Decided}
use Rattle.answers.specs.declared.Report.{Report}
use Rattle.answers.specs.declared.Refusal.{Refusal}
use Rattle.answers.specs.declared.Answer.TheVariants as A
use Rattle.answers.specs.Outcomes.{Tried, Ran, made_run}
use Rattle.std.specs.Prelude.{Ok}
use Rattle.answers.proofs.One.{answer_one, tried_one, ran_one}
use Rattle.model.specs.Basics.{member}
use Rattle.model.specs.Checks.{floor_of, goals, sizes, path_room, settings}
use Rattle.model.specs.Decision.{at_goal, act, decide, least_room}
use Rattle.model.specs.Opening.{open_job, open_trial, open_run}
use Rattle.model.specs.Ride.{Ride, begun, next_by, ride_from, ride_from_by, report, ride, trial, Course, course_from, course_from_by, run}
use Rattle.model.proofs.Accepted.{then_done, then_next, reports_judges, trials_judges}
use Rattle.model.proofs.Openings.{Ready, opened, ready, accepted-trial, ready-run}
use Rattle.model.proofs.Meaning.{net}
use Rattle.model.proofs.Benches.{goal_means}
use Rattle.model.proofs.Cases.{act-arrived}
use Rattle.model.proofs.Rides.{ready_after, course_settled, course_again}
use Rattle.model.proofs.Driven.{Drives, Names, Moved, decide_drives, trial_drives, trial_ends_at_a_bench, trial_drives_to_a_bench}
use Rattle.model.proofs.Demand.{K, R, can, true_of, distance, bound_is, made_is_accepted, trial_is_made, trial_is_promised, made_run_is_accepted, run_is_made}
use Rattle.model.proofs.Demand.{no_figure_falls_in_a_trial, no_figure_passes_truth_in_a_trial, no_figure_falls_in_a_run, no_figure_passes_truth_in_a_run}
use Rattle.model.proofs.Demand.{no_figure_falls_in_a_decision, no_figure_passes_truth_in_a_decision, decision_stays_accepted}
use Rattle.decision.specs.Ready.{Decides}
use Rattle.run.specs.Trials.{IsTrial, IsRun}
use Rattle.learner.proofs.Deciding.{handed, after, few, at_bench, whole, acts, arrives, goes, goes_on, hands}

-- ---- "Take any accepted job with weight p/q."

-- `open` answers done for it, and the path list has a place for each cell
pub record Accepted (j : Job) (bytes : List ℕ) (start : ℕ) (table path : List ℕ) : Type 0 where
  pub opens : open_job j bytes start table ≡ Ok tt
  pub room : j.width * j.height ≤ length path

-- so its trial is accepted, and so is its run of 1 to 1,000 trials with a record for each
accepted-opens : {j : Job} {bytes : List ℕ} {start : ℕ} {table path : List ℕ} → Accepted j bytes start table path → open_trial j bytes start table path ≡ Ok tt
accepted-opens {j} {bytes} {start} {table} {path} a = accepted-trial j bytes start table path (record { opened = opened j bytes start table a.opens; room = a.room })

pub accepted-runs : {j : Job} {bytes : List ℕ} {start : ℕ} {table path : List ℕ} → Accepted j bytes start table path → (trials records : ℕ) → 1 ≤ trials → trials ≤ 1000 → trials ≤ records
    → open_run j bytes start table path trials records ≡ Ok tt
unfolding open_trial open_run
accepted-runs {j} {bytes} {start} {table} {path} a trials records some few room =
    let f = floor_of j bytes in
    let (one, after_one) = then_done (sizes f (length table)) _ (accepted-opens a) in
    let (two, after_two) = then_done (path_room f (length path)) _ after_one in
    let (three, rest) = then_done (settings j) _ after_two in
    then_next _ one ∙ then_next _ two ∙ then_next _ ((reports_judges trials records).done room) ∙ then_next _ three ∙ then_next _ ((trials_judges trials).done (some, few)) ∙ rest

-- and both are made: `trial` answers a record, and `run` a number of trials
pub accepted_is_tried : {j : Job} {bytes : List ℕ} {start : ℕ} {table path : List ℕ} → Accepted j bytes start table path → {a : Tried} {t p : List ℕ}
    → IsTrial (trial j bytes start table path) a t p → (r : Report) × (a ≡ Ok r)
accepted_is_tried {j} {bytes} {start} {table} {path} h {a} c =
    (_, tried_one a _ c.answer_is ∙ ap (λ o. o.answer) (trial_is_made j bytes start table path (accepted-opens h)))

pub accepted_is_run : {j : Job} {bytes : List ℕ} {start : ℕ} {table path : List ℕ} → Accepted j bytes start table path → (trials : ℕ) (lent : List Report) → 1 ≤ trials → trials ≤ 1000
    → trials ≤ length lent → {a : Ran} {t p : List ℕ} {reports : List Report} → IsRun (run j bytes start trials table path lent) a t p reports → (n : ℕ) × (settled : Bool) × (a ≡ made_run n settled)
accepted_is_run {j} {bytes} {start} {table} {path} h trials lent some few room {a} c =
    (_, _, ran_one a _ c.answer_is ∙ ap (λ o. o.answer) (run_is_made j bytes start trials table path lent (accepted-runs h trials (length lent) some few room)))

-- ---- "No cell's figure ever falls, or, where the bench can be reached from it, passes its true figure, q times the cheapest distance to the bench."

-- of the table before and after
pub record Figures (j : Job) (bytes before after : List ℕ) : Type 0 where
  pub falls_not : (x : ℕ) → get_or before x 0 ≤ get_or after x 0
  pub passes_not : (x : ℕ) → can j bytes x ≡ true → get_or after x 0 ≤ true_of j bytes x

-- ---- "Every trial reaches the bench in fewer than K × (R + 1) decisions. R is the sum, at the trial's start, of true figure less stored figure over all cells
-- that can reach the bench; K is 1 more than how many whole times 10p goes into the largest true figure among those cells. The way kept after loops and backing
-- out are struck off costs at most (cheapest distance from the start + quota) × q / p. A trial that learns nothing travels at most the cheapest distance × q / p,
-- all moves counted."

-- of a trial's record, and of the table before and after it
pub record Kept (j : Job) (bytes : List ℕ) (start : ℕ) (before : List ℕ) (r : Report) (after : List ℕ) : Type 0 where
  pub figures : Figures j bytes before after
  pub few : r.decisions < K j bytes * (R j bytes before + 1)
  pub kept-way : j.p * r.kept ≤ j.q * (distance j bytes start + j.quota)
  pub learning_nothing : r.learned ≡ 0 → j.p * r.travel ≤ j.q * distance j bytes start
  -- it ends at a bench, one of the job's goals
  pub bench : ℕ
  pub is_bench : member bench (goals j) ≡ true
  -- what is counted: the kept cost is that of a walk from the start to that bench, and the travel that of moves which drive the cart from the start to it
  pub keeps_a_way : Leads (net j bytes) Any start bench r.kept
  pub drives : (moves : List ℕ) × Drives (floor_of j bytes) start moves bench r.travel

ride-keeps : (j : Job) (bytes : List ℕ) (start : ℕ) (table path : List ℕ) → open_trial j bytes start table path ≡ Ok tt
    → Kept j bytes start table (report j bytes (ride j bytes start table path)) (ride j bytes start table path).table
ride-keeps j bytes start table path e =
    let g = trial_is_promised j bytes start table path e in
    record {
      figures = record { falls_not = g.falls_not; passes_not = g.passes_not };
      few = g.decisions;
      kept-way = g.kept-way;
      learning_nothing = g.learning_nothing;
      bench = (ride j bytes start table path).state.current;
      is_bench = g.reaches_the_bench;
      keeps_a_way = g.keeps_a_way.walk;
      drives = ((ride j bytes start table path).moves, g.drives);
    }

-- where `trial` answers a record, all this holds of it and of the table that it leaves
pub trial-keeps : (j : Job) (bytes : List ℕ) (start : ℕ) (table path : List ℕ) (r : Report) (t p : List ℕ) → IsTrial (trial j bytes start table path) (Ok r) t p
    → Kept j bytes start table r t
trial-keeps j bytes start table path r t p h =
    let (accepted, same) = made_is_accepted j bytes start table path r (sym (tried_one (Ok r) (trial j bytes start table path).answer h.answer_is)) in
    let left : t ≡ (ride j bytes start table path).table = h.table_is ∙ ap (λ o. o.table) (trial_is_made j bytes start table path accepted) in
    subst (λ u. Kept j bytes start table u t) same
    (subst (Kept j bytes start table (report j bytes (ride j bytes start table path))) (sym left) (ride-keeps j bytes start table path accepted))

-- ---- the same of each trial of a run

-- records of trials one after another, from a table to a table: each keeps all this from the table that the one before it left
pub data EachKept (j : Job) (bytes : List ℕ) (start : ℕ) : (before : List ℕ) → List Report → (after : List ℕ) → Type 0 where
  no_more : {table : List ℕ} → EachKept j bytes start table [] table
  and_then : {table left after : List ℕ} {r : Report} {rs : List Report} → Kept j bytes start table r left → EachKept j bytes start left rs after
      → EachKept j bytes start table (r ∷ rs) after

-- of a run that made n trials, and of the lists before and after it
pub record RunKept (j : Job) (bytes : List ℕ) (start n : ℕ) (before after : List ℕ) (lent reports : List Report) : Type 0 where
  -- the first n records are those of its trials, from the table lent to the table left; later ones are as lent
  pub made : EachKept j bytes start before (take n reports) after
  pub count : length (take n reports) ≡ n
  pub later : drop n reports ≡ drop n lent
  -- over the whole run
  pub figures : Figures j bytes before after

course_keeps : (j : Job) (bytes : List ℕ) (start k : ℕ) (table path : List ℕ) → Ready j bytes start table path
    → EachKept j bytes start table (map (report j bytes) (course_from j bytes start k table path).rides) (course_from j bytes start k table path).table
unfolding course_from_by
course_keeps j bytes start zero table path A = no_more
course_keeps j bytes start (suc k) table path A = by (eqb r.learned 0) refl (course_keeps j bytes start k r.table r.path (ready_after j bytes start table path A))
  where
    r : Ride
    r = ride j bytes start table path

    Keeps : Course → Type 0
    Keeps c = EachKept j bytes start table (map (report j bytes) c.rides) c.table

    first : Kept j bytes start table (report j bytes r) r.table
    first = ride-keeps j bytes start table path (accepted-trial j bytes start table path A)

    by : (b : Bool) → eqb r.learned 0 ≡ b
        → EachKept j bytes start r.table (map (report j bytes) (course_from j bytes start k r.table r.path).rides) (course_from j bytes start k r.table r.path).table
        → Keeps (course_from j bytes start (suc k) table path)
    by true e more = subst Keeps (sym (course_settled j bytes start k table path e)) (and_then first no_more)
    by false e more = subst Keeps (sym (course_again j bytes start k table path e)) (and_then first more)

-- where `run` answers that it made n trials, all this holds of the records and of the table that it leaves
pub run-keeps : (j : Job) (bytes : List ℕ) (start trials : ℕ) (table path : List ℕ) (lent : List Report) (n : ℕ) (settled : Bool) (t p : List ℕ) (reports : List Report)
    → IsRun (run j bytes start trials table path lent) (made_run n settled) t p reports → RunKept j bytes start n table t lent reports
run-keeps j bytes start trials table path lent n settled t p reports h =
    let (accepted, count, told) = made_run_is_accepted j bytes start trials table path lent n settled
    (sym (ran_one (made_run n settled) (run j bytes start trials table path lent).answer h.answer_is)) in
    let c = course_from j bytes start trials table path in
    let rs = map (report j bytes) c.rides in
    let long : length rs ≡ n = length-map c.rides (report j bytes) ∙ count in
    let o = run_is_made j bytes start trials table path lent accepted in
    let left : t ≡ c.table = h.table_is ∙ ap (λ o. o.table) o in
    let filed : reports ≡ rs ++ drop (length rs) lent = h.reports_are ∙ ap (λ o. o.reports) o in
    let first : take n reports ≡ rs = ap (take n) filed ∙ take_at rs (drop (length rs) lent) n long in
    let made = course_keeps j bytes start trials table path (ready-run j bytes start table path trials (length lent) accepted).ready in
    record {
      made = subst (EachKept j bytes start table (take n reports)) (sym left) (subst (λ xs. EachKept j bytes start table xs c.table) (sym first) made);
      count = ap length first ∙ long;
      later = ap (drop n) filed ∙ drop_at rs (drop (length rs) lent) n long ∙ ap (λ k. drop k lent) long;
      figures = subst (Figures j bytes table) (sym left)
          (record {
            falls_not = no_figure_falls_in_a_run j bytes start trials table path;
            passes_not = no_figure_passes_truth_in_a_run j bytes start trials table path (length lent) accepted;
          });
    }

-- ---- and of each decision

module _ (j : Job) (bytes : List ℕ) (s : State) (table path moves : List ℕ) (from : ℕ) (r : Decided) (t p m : List ℕ)
    (h : Decides (decide j bytes s table path moves from) r t p m) where
  -- from whatever state it is made: where the job is accepted with the table lent, no figure falls or passes the truth, and it stays accepted
  pub decision_keeps : (start : ℕ) → open_job j bytes start table ≡ Ok tt → Figures j bytes table t × (open_job j bytes start t ≡ Ok tt)
  decision_keeps start e =
      subst (λ u. Figures j bytes table u × (open_job j bytes start u ≡ Ok tt)) (sym h.table) (
        record {
          falls_not = no_figure_falls_in_a_decision j bytes s table path moves from;
          passes_not = no_figure_passes_truth_in_a_decision j bytes start s table path moves from e;
        },
        decision_stays_accepted j bytes start s table path moves from e,
      )

  -- whatever it is called with: where the answer names a target and a number of moves, those stand in the lent list and drive the cart there, at the decision's cost
  pub decision_drives : (target n : ℕ) → Names r.answer target n
      → (r.state.current ≡ target) × Moved (floor_of j bytes) s.current target n (act j bytes s table path).cost from moves m
  decision_drives target n k =
      let o = decide j bytes s table path moves from in
      let (to, moved) = decide_drives j bytes s table path moves from target n (subst (λ a. Names a target n) (answer_one r.answer o.answer h.answer) k) in
      (ap (λ s. s.current) h.state ∙ to, subst (Moved (floor_of j bytes) s.current target n (act j bytes s table path).cost from moves) (sym h.moves) moved)

-- Decisions by the public call, one after another: the first at the start with nothing learned and an empty path, each further one from the state and the lists that
-- the one before it left. Each has 288 places for its moves, and none has answered that it has arrived: n of them, all moves that they handed out (`handed`), and
-- where they lead.
pub data Decisions (j : Job) (bytes : List ℕ) (start : ℕ) (table path : List ℕ) : (n : ℕ) → (moved : List ℕ) → State → (t p : List ℕ) → Type 0 where
  none : Decisions j bytes start table path 0 [] (begun start table path).state table path
  another : {n : ℕ} {s : State} {r : Decided} {moved t p t' p' m' : List ℕ} → Decisions j bytes start table path n moved s t p
      → (moves : List ℕ) (from : ℕ) → from + least_room ≤ length moves → Decides (decide j bytes s t p moves from) r t' p' m' → (r.answer ≡ A.Arrived → ⊥)
      → Decisions j bytes start table path (suc n) (moved ++ handed r.answer from m') r.state t' p'

-- decisions that come to a bench are the trial's: their number, the lists left, and the moves, which drive the cart from the start to that bench at the trial's travel
pub record Whole (j : Job) (bytes : List ℕ) (start n : ℕ) (moved t p : List ℕ) (o : Ride) : Type 0 where
  pub decisions : n ≡ o.decisions
  pub table_is : t ≡ o.table
  pub path_is : p ≡ o.path
  pub moves_are : moved ≡ o.moves
  pub drives : Drives (floor_of j bytes) start moved o.state.current o.travel
  pub is_bench : member o.state.current (goals j) ≡ true

-- what a call answers that has 288 places, where n decisions have led to the state s
pub record GoesOn (j : Job) (bytes : List ℕ) (start : ℕ) (table path : List ℕ) (n : ℕ) (moved : List ℕ) (s : State) (r : Decided) (t p : List ℕ) : Type 0 where
  -- it is not refused
  pub let_through : (x : Refusal) → r.answer ≡ A.Refused x → ⊥
  -- it answers that it has arrived at any of the benches, and nowhere else; then the trial is made
  pub at_the_bench : member s.current (goals j) ≡ true → r.answer ≡ A.Arrived
  pub nowhere_else : r.answer ≡ A.Arrived → member s.current (goals j) ≡ true
  pub made : r.answer ≡ A.Arrived → Whole j bytes start n moved t p (ride j bytes start table path)

-- "Every trial reaches the bench in fewer than K × (R + 1) decisions.": also one that is made decision by decision
pub record OnTheWay (j : Job) (bytes : List ℕ) (start : ℕ) (table path : List ℕ) (n : ℕ) (moved : List ℕ) (s : State) (t p : List ℕ) : Type 0 where
  -- so long as none has answered that it has arrived they are fewer, so the call after them answers so at the latest
  pub few : n < K j bytes * (R j bytes table + 1)
  -- they are the first n of the trial's own
  pub state_is : s ≡ (ride_from j bytes n (begun start table path)).state
  pub table_is : t ≡ (ride_from j bytes n (begun start table path)).table
  pub path_is : p ≡ (ride_from j bytes n (begun start table path)).path
  -- the moves handed out drive the cart from the start to where it stands
  pub drives : Drives (floor_of j bytes) start moved s.current (ride_from j bytes n (begun start table path)).travel
  -- no figure fell or passed the truth
  pub figures : Figures j bytes table t
  -- and the next call goes on
  pub goes_on : (moves : List ℕ) (from : ℕ) → from + least_room ≤ length moves → (r : Decided) (t' p' m' : List ℕ) → Decides (decide j bytes s t p moves from) r t' p' m'
      → GoesOn j bytes start table path n moved s r t' p'

-- a call made where the ride stands
module _ (j : Job) (bytes : List ℕ) (start : ℕ) (table path : List ℕ) (a : Accepted j bytes start table path) where
  accepted : Ready j bytes start table path
  accepted = ready j bytes start table path (accepted-opens a)

  abbrev stands : ℕ → Ride
  stands n = after j bytes start table path n

  call : (n : ℕ) → (stands n).decisions ≡ n → (moves : List ℕ) (from : ℕ) → from + least_room ≤ length moves → {r : Decided} {t p m : List ℕ}
      → Decides (decide j bytes (stands n).state (stands n).table (stands n).path moves from) r t p m → GoesOn j bytes start table path n (stands n).moves (stands n).state r t p
  call n count moves from room {r} {t} {p} h = by (at_goal j bytes (stands n).state.current) refl
    where
      by : (b : Bool) → at_goal j bytes (stands n).state.current ≡ b → GoesOn j bytes start table path n (stands n).moves (stands n).state r t p
      by false g =
          let (not_refused, not-arrived) = goes j bytes start table path accepted n moves from room h g in
          record {
            let_through = not_refused;
            at_the_bench = λ q. let z : ◌≡◌ {A = ℕ} 0 1 = cc (at_bench j bytes start table path accepted n q) in absurd (omega arith);
            nowhere_else = λ q. absurd (not-arrived q);
            made = λ q. absurd (not-arrived q);
          }
      by true g =
          let arrived = arrives j bytes start table path accepted n moves from room h g in
          let c = acts j bytes start table path accepted n moves from room h in
          let still = act-arrived j bytes (stands n).state (stands n).table (stands n).path g in
          let all = whole j bytes start table path accepted n count g in
          record {
            let_through = λ x q. let z : ◌≡◌ {A = ℕ} 0 1 = cc in omega arith;
            at_the_bench = λ q. arrived;
            nowhere_else = λ q. goal_means (floor_of j bytes) (goals j) _ (subst T (sym g) tt);
            made = λ q. record {
              decisions = sym count ∙ ap (λ r. r.decisions) all;
              table_is = c.table ∙ ap (λ d. d.table) still ∙ ap (λ r. r.table) all;
              path_is = c.path ∙ ap (λ d. d.path) still ∙ ap (λ r. r.path) all;
              moves_are = ap (λ r. r.moves) all;
              drives = subst (λ ms. Drives (floor_of j bytes) start ms (ride j bytes start table path).state.current (ride j bytes start table path).travel) (sym (ap (λ r. r.moves) all))
                  (trial_drives_to_a_bench j bytes start table path (accepted-opens a));
              is_bench = trial_ends_at_a_bench j bytes start table path (accepted-opens a);
            };
          }

  -- the same call, where the state and the lists are the ride's
  at_ride : (n from : ℕ) (moves : List ℕ) {s : State} {r : Decided} {t p t' p' m' : List ℕ} → s ≡ (stands n).state → t ≡ (stands n).table → p ≡ (stands n).path
      → Decides (decide j bytes s t p moves from) r t' p' m' → Decides (decide j bytes (stands n).state (stands n).table (stands n).path moves from) r t' p' m'
  at_ride n from moves {s} {r} {t} {p} {t'} {p'} {m'} es et ep h =
      subst (λ p. Decides (decide j bytes (stands n).state (stands n).table p moves from) r t' p' m') ep
      (subst (λ t. Decides (decide j bytes (stands n).state t p moves from) r t' p' m') et (subst (λ s. Decides (decide j bytes s t p moves from) r t' p' m') es h))

  -- so n decisions lead where the ride stands after n
  record Along (n : ℕ) (moved : List ℕ) (s : State) (t p : List ℕ) : Type 0 where
    count : (stands n).decisions ≡ n
    moves_are : moved ≡ (stands n).moves
    state_is : s ≡ (stands n).state
    table_is : t ≡ (stands n).table
    path_is : p ≡ (stands n).path

  along : {n : ℕ} {moved : List ℕ} {s : State} {t p : List ℕ} → Decisions j bytes start table path n moved s t p → Along n moved s t p
  unfolding ride_from_by next_by
  along none = record { count = refl; moves_are = refl; state_is = refl; table_is = refl; path_is = refl }
  along (another {n = n} k moves from room h not) =
      let o = along k in
      let c = at_ride n from moves o.state_is o.table_is o.path_is h in
      let e = goes_on j bytes start table path accepted n moves from room c not in
      let d = acts j bytes start table path accepted n moves from room c in
      record {
        count = ap (λ r. r.decisions) e ∙ ap suc o.count;
        moves_are = ap₂ ◌++◌ o.moves_are (hands j bytes start table path accepted n moves from room c not) ∙ sym (ap (λ r. r.moves) e);
        state_is = d.state ∙ sym (ap (λ r. r.state) e);
        table_is = d.table ∙ sym (ap (λ r. r.table) e);
        path_is = d.path ∙ sym (ap (λ r. r.path) e);
      }

  pub decisions_arrive : {n : ℕ} {moved : List ℕ} {s : State} {t p : List ℕ} → Decisions j bytes start table path n moved s t p → OnTheWay j bytes start table path n moved s t p
  decisions_arrive {n} {moved} {s} k =
      let o = along k in
      record {
        few = subst₂ ◌<◌ o.count (bound_is j bytes table) (few j bytes start table path accepted n);
        state_is = o.state_is;
        table_is = o.table_is;
        path_is = o.path_is;
        drives = subst₂ (λ ms s. Drives (floor_of j bytes) start ms s.current (stands n).travel) (sym o.moves_are) (sym o.state_is)
            (trial_drives j bytes start table path (accepted-opens a) n);
        figures = subst (Figures j bytes table) (sym o.table_is)
            (record {
              falls_not = no_figure_falls_in_a_trial j bytes start table path n;
              passes_not = no_figure_passes_truth_in_a_trial j bytes start table path (accepted-opens a) n;
            });
        goes_on = λ moves from room r t' p' m' h.
            subst₂ (λ ms s. GoesOn j bytes start table path n ms s r t' p') (sym o.moves_are) (sym o.state_is)
            (call n o.count moves from room (at_ride n from moves o.state_is o.table_is o.path_is h));
      }
