-- What a ride, a trial and a run promise, and where a run stands between two trials.
use Rattle.std.specs.Prelude.{ℕ, ◌+◌, ◌<◌, ◌≡◌, List, eqb, ltb, length, get_or, set}
use Rattle.learning.specs.Ground.{pick}
use Rattle.answers.specs.declared.Job.{Job}
use Rattle.answers.specs.declared.Report.{Report}
use Rattle.answers.specs.Outcomes.{Tried, Ran}
use Rattle.answers.specs.Says.{says_tried, says_ran}
use Rattle.model.specs.Basics.{choose}
use Rattle.model.specs.Ride.{Ride, report, TrialOutcome, RunOutcome}
use Rattle.lookahead.specs.Contract.{Used}
use Rattle.run.specs.declared.Workspace.{Workspace}

-- What the legs come to up to each place of the path, after a decision that took its length from n to m: one more sum where it is longer.
abbrev pub noted : List ℕ → (n m leg : ℕ) → List ℕ
noted along n m leg = choose (ltb n m) (set along m (get_or along n 0 + leg)) along

-- the sum has a place, and fits in 32 bits
pub record Fits (along : List ℕ) (n m leg : ℕ) : Type 0 where
  pub size : length along ≡ 4096
  pub place : n < m → m < 4096
  pub sum : n < m → get_or along n 0 + leg < 4294967296

-- the lists that a trial starts with
pub record Cleared (l : Workspace) : Type 0 where
  pub used : Used 1 l.scratch.mark l.scratch.cost l.scratch.list
  pub places : length l.place ≡ 4096
  pub sums : length l.along ≡ 4096
  pub none_yet : get_or l.along 0 0 ≡ 0

-- one trial past its opening: its record and the lists at exit are those of the model's ride o
pub record Rode (j : Job) (bytes : List ℕ) (o : Ride) (r : Report) (table path : List ℕ) : Type 0 where
  pub record_is : r ≡ report j bytes o
  pub table_is : table ≡ o.table
  pub path_is : path ≡ o.path

-- what a trial answers and leaves is what o says
pub record IsTrial (o : TrialOutcome) (r : Tried) (table path : List ℕ) : Type 0 where
  pub answer_is : says_tried r ≡ says_tried o.answer
  pub table_is : table ≡ o.table
  pub path_is : path ≡ o.path

-- what a run answers and leaves is what o says
pub record IsRun (o : RunOutcome) (r : Ran) (table path : List ℕ) (reports : List Report) : Type 0 where
  pub answer_is : says_ran r ≡ says_ran o.answer
  pub table_is : table ≡ o.table
  pub path_is : path ≡ o.path
  pub reports_are : reports ≡ o.reports

-- how many trials a limit allows after one: 0 where it learned nothing
abbrev pub limit_after : ℕ → Report → ℕ
limit_after limit r = pick (eqb r.learned 0) 0 limit
