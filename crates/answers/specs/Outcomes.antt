-- What the calls but a decision answer: a result, or the refusal in its place.
use Rattle.std.specs.Prelude.{ℕ, Bool, Result, Ok}
use Rattle.answers.specs.declared.Refusal.{Refusal}
use Rattle.answers.specs.declared.Report.{Report}
use Rattle.answers.specs.declared.Made.{Made}
use Rattle.answers.specs.declared.Sizes.{Sizes}

-- a check, a trial, a run, a floor text that is read, and a table file or a floor text that is written
abbrev pub Verdict : Type 0
Verdict = Result (Unit {0}) Refusal

abbrev pub Tried : Type 0
Tried = Result Report Refusal

abbrev pub Ran : Type 0
Ran = Result Made Refusal

abbrev pub FloorRead : Type 0
FloorRead = Result Sizes Refusal

abbrev pub Written : Type 0
Written = Result ℕ Refusal

-- a run of so many trials, settled or not; and a floor of these sizes
abbrev pub made_run : ℕ → Bool → Ran
made_run trials settled = Ok (record { trials = trials; settled = settled })

abbrev pub read_sizes : ℕ → ℕ → FloorRead
read_sizes width height = Ok (record { width = width; height = height })
