-- Trial and run.
use Rattle.std.specs.Prelude.{ℕ, zero, suc, ◌+◌, ◌*◌, Bool, true, false, List, [], ◌∷◌, ◌++◌, map, eqb, length, drop}
use Rattle.learning.specs.Path.{legs}
use Rattle.learning.specs.Trial.{left, factor}
use Rattle.learning.specs.Ground.{job_of, leg_of}
use Rattle.learning.specs.Trial as learning
use Rattle.answers.specs.declared.Job.{Job}
use Rattle.answers.specs.declared.State.{State}
use Rattle.answers.specs.declared.Report.{Report}
use Rattle.answers.specs.Outcomes.{Verdict, Tried, Ran, made_run}
use Rattle.std.specs.Prelude.{Ok, Err}
use Rattle.model.specs.Checks.{ground_in}
use Rattle.model.specs.Decision.{Deed, Choice, act_by, at_goal, on_path}
use Rattle.model.specs.Lookahead.{route}
use Rattle.model.specs.Opening.{open_trial, open_run}

-- Where a trial stands: the state and the lists, and so far its decisions, learned amount, travel and moves.
pub record Ride : Type 0 where
  pub state : State
  pub table : List ℕ
  pub path : List ℕ
  pub decisions : ℕ
  pub learned : ℕ
  pub travel : ℕ
  pub moves : List ℕ

-- a trial starts at the start cell with u = 0 and an empty path
abbrev pub begun : ℕ → (table path : List ℕ) → Ride
begun start table path = record {
  state = record { current = start; learned = 0; length = 0 };
  table = table;
  path = path;
  decisions = 0;
  learned = 0;
  travel = 0;
  moves = [];
}

-- one decision more
abbrev pub ridden : Ride → Deed → Ride
ridden r d = record {
  state = d.state;
  table = d.table;
  path = d.path;
  decisions = suc r.decisions;
  learned = r.learned + d.rise;
  travel = r.travel + d.cost;
  moves = r.moves ++ d.way;
}

unfoldable pub next_by : Choice → Job → List ℕ → Ride → Ride
next_by choice j bytes r = ridden r (act_by choice j bytes r.state r.table r.path)

-- decisions until done, at most so many; the arrived answer isn't counted
unfoldable pub ride_from_by : Choice → Job → List ℕ → ℕ → Ride → Ride
ride_from_by choice j bytes zero r = r
ride_from_by choice j bytes (suc n) r = elim (at_goal j bytes r.state.current) [ true ↦ r | false ↦ ride_from_by choice j bytes n (next_by choice j bytes r) ]

-- the job as `learning` has it, and K × (R + 1): more than the decisions of any trial from an accepted job
abbrev pub learning_job : Job → List ℕ → learning.Job
learning_job j bytes = job_of (ground_in j bytes) j.depth j.p j.q j.quota

unfoldable pub bound : Job → List ℕ → List ℕ → ℕ
bound j bytes table = factor (learning_job j bytes) * (left (learning_job j bytes) table + 1)

unfoldable pub ride_by : Choice → Job → List ℕ → (start : ℕ) → (table path : List ℕ) → Ride
ride_by choice j bytes start table path = ride_from_by choice j bytes (bound j bytes table) (begun start table path)

-- kept cost: the legs along the path at the end
unfoldable pub kept : Job → List ℕ → Ride → ℕ
kept j bytes r = legs (leg_of (ground_in j bytes) j.depth) (on_path r.state r.path) r.state.current

abbrev pub report : Job → List ℕ → Ride → Report
report j bytes r = record { decisions = r.decisions; learned = r.learned; kept = kept j bytes r; travel = r.travel }

-- All that a trial answers and leaves.
pub record TrialOutcome : Type 0 where
  pub answer : Tried
  pub table : List ℕ
  pub path : List ℕ

abbrev pub trial_of : Verdict → Job → List ℕ → Ride → (table path : List ℕ) → TrialOutcome
trial_of (Ok _) j bytes r table path = record { answer = Ok (report j bytes r); table = r.table; path = r.path }
trial_of (Err r') j bytes r table path = record { answer = Err r'; table = table; path = path }

unfoldable pub trial_by : Choice → Job → List ℕ → (start : ℕ) → (table path : List ℕ) → TrialOutcome
trial_by choice j bytes start table path = trial_of (open_trial j bytes start table path) j bytes (ride_by choice j bytes start table path) table path

-- A course: the rides of a run's trials in order, whether the last learned nothing, and the lists it leaves.
pub record Course : Type 0 where
  pub rides : List Ride
  pub settled : Bool
  pub table : List ℕ
  pub path : List ℕ

-- trials until one learns 0 or the number asked for is used
unfoldable pub course_from_by : Choice → Job → List ℕ → (start trials : ℕ) → (table path : List ℕ) → Course
course_from_by choice j bytes start zero table path = record { rides = []; settled = false; table = table; path = path }
course_from_by choice j bytes start (suc k) table path =
    let r = ride_by choice j bytes start table path in
    elim (eqb r.learned 0) [
      | true ↦ record { rides = r ∷ []; settled = true; table = r.table; path = r.path }
      | false ↦ let c = course_from_by choice j bytes start k r.table r.path in
          record { rides = r ∷ c.rides; settled = c.settled; table = c.table; path = c.path }
    ]

-- the records of the trials made; later records are untouched
abbrev pub filed_in : List Report → List Report → List Report
filed_in made lent = made ++ drop (length made) lent

-- All that a run answers and leaves.
pub record RunOutcome : Type 0 where
  pub answer : Ran
  pub table : List ℕ
  pub path : List ℕ
  pub reports : List Report

abbrev pub run_of : Verdict → Job → List ℕ → Course → (table path : List ℕ) → List Report → RunOutcome
run_of (Ok _) j bytes c table path reports =
    record { answer = made_run (length c.rides) c.settled; table = c.table; path = c.path; reports = filed_in (map (report j bytes) c.rides) reports }
run_of (Err r) j bytes c table path reports = record { answer = Err r; table = table; path = path; reports = reports }

unfoldable pub run_by : Choice → Job → List ℕ → (start trials : ℕ) → (table path : List ℕ) → List Report → RunOutcome
run_by choice j bytes start trials table path reports =
    run_of (open_run j bytes start table path trials (length reports)) j bytes (course_from_by choice j bytes start trials table path) table path reports

-- the carts' own, by `route`
abbrev pub next : Job → List ℕ → Ride → Ride
next j bytes = next_by (route j bytes) j bytes

abbrev pub ride_from : Job → List ℕ → ℕ → Ride → Ride
ride_from j bytes = ride_from_by (route j bytes) j bytes

abbrev pub ride : Job → List ℕ → (start : ℕ) → (table path : List ℕ) → Ride
ride j bytes = ride_by (route j bytes) j bytes

abbrev pub trial : Job → List ℕ → (start : ℕ) → (table path : List ℕ) → TrialOutcome
trial j bytes = trial_by (route j bytes) j bytes

abbrev pub course_from : Job → List ℕ → (start trials : ℕ) → (table path : List ℕ) → Course
course_from j bytes = course_from_by (route j bytes) j bytes

abbrev pub run : Job → List ℕ → (start trials : ℕ) → (table path : List ℕ) → List Report → RunOutcome
run j bytes = run_by (route j bytes) j bytes
