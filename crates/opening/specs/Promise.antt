-- What the public calls promise: the model's answer, so its number and place, and one value for every lent list.
use Rattle.std.specs.Prelude.{ℕ, ◌≡◌, List, length}
use Rattle.answers.specs.Says.{says_verdict}
use Rattle.answers.specs.declared.Goals.{Goals}
use Rattle.answers.specs.declared.Job.{Job}
use Rattle.answers.specs.declared.Settings.{Settings}
use Rattle.answers.specs.Outcomes.{Verdict}
use Rattle.model.specs.Basics.{then}
use Rattle.model.specs.Floor.{Floor}
use Rattle.model.specs.Checks.{settings}
use Rattle.model.specs.Opening.{open_table, filled, trials_hold}
use Rattle.model.specs.Line.{job_in}

pub record Answers (r v : Verdict) : Type 0 where
  pub is : r ≡ v
  pub says : says_verdict r ≡ says_verdict v

-- filling a table with opening figures
pub record Fills (f : Floor) (q : ℕ) (g : Goals) (table : List ℕ) (r : Verdict) (after : List ℕ) : Type 0 where
  pub answer : Answers r (open_table f q g (length table))
  pub left : after ≡ filled (open_table f q g (length table)) f q g table

-- 3: the settings of a run; and those of the line, of which the sizes of a floor are no part
abbrev pub run_settings : Job → (trials : ℕ) → Verdict
run_settings j trials = then (settings j) (trials_hold trials)

abbrev pub line_holds : Settings → Verdict
line_holds s = run_settings (job_in s 1 1) s.trials
