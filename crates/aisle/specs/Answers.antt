-- What the program's functions take and promise: parts of the model's `aisle`, from the inside out.
use Rattle.std.specs.Prelude.{ℕ, ◌≤◌, ◌≡◌, List, length, take}
use Rattle.answers.specs.declared.Job.{Job}
use Rattle.answers.specs.Outcomes.{Verdict}
use Rattle.std.specs.Prelude.{Ok, Err}
use Rattle.model.specs.Floor.{Sized, size, opening_table}
use Rattle.model.specs.Checks.{floor_of, goals, goals_hold, settings}
use Rattle.model.specs.Opening.{open_job}
use Rattle.model.specs.Ride.{course_from}
use Rattle.model.specs.Line.{refusal_line, course_lines, aisle}
use Rattle.notation.specs.declared.print.Printer.{Printer}
use Rattle.journey.specs.Telling.{Ended}

-- what is told of a job by what its opening says
abbrev pub told_of : Verdict → Job → List ℕ → (start trials : ℕ) → (table path : List ℕ) → List ℕ
told_of (Err r) j bytes start trials table path = refusal_line r
told_of (Ok _) j bytes start trials table path = course_lines j bytes (course_from j bytes start trials table path)

-- on the opening table
abbrev pub opened_lines : Job → List ℕ → (start trials : ℕ) → (path : List ℕ) → List ℕ
opened_lines j bytes start trials path =
    let table = opening_table (floor_of j bytes) j.q (goals j) in
    told_of (open_job j bytes start table) j bytes start trials table path

-- a floor that is read, settings that hold, and goals that do, the line's one goal being all
pub record Readied (j : Job) (bytes : List ℕ) (trials : ℕ) : Type 0 where
  pub sized : Sized (floor_of j bytes)
  pub holds : settings j ≡ Ok tt
  pub order : goals_hold j.goals ≡ Ok tt
  pub some : 1 ≤ trials
  pub few : trials ≤ 1000

-- lists with a place for each cell
pub record Lent (j : Job) (bytes table path : List ℕ) : Type 0 where
  pub figures : length table ≡ size (floor_of j bytes)
  pub places : length path ≡ size (floor_of j bytes)

-- a text is told; or it is the line of the refusal that is answered, and nothing is told yet
abbrev pub Says : (text : List ℕ) → Verdict → (p p' : Printer) → Type 0
Says text (Ok _) p p' = Ended p text p'
Says text (Err r) p p' = (text ≡ refusal_line r) × (p' ≡ p)

-- what is told of the bytes that are read: that of every input that they are the first 8,192 bytes of, or all of it where it is shorter
pub record Answered (bytes : List ℕ) (p p' : Printer) : Type 0 where
  pub read : Ended p (aisle bytes) p'
  pub whole : (input : List ℕ) → take 8192 input ≡ bytes → Ended p (aisle input) p'
