-- The floor that document 01 works on, the jobs on it, and what the cases lend.
use Prim.Native.Nat.{ℕ}
use mathlib.Core.List.{List, [], ◌∷◌, ◌++◌}
use lib.ListN.{set, replicate}
use Rattle.answers.specs.declared.Job.{Job}
use Rattle.answers.specs.declared.State.{State}
use Rattle.answers.specs.declared.Place.{Place}
use Rattle.answers.specs.declared.Answer.{Answer}
use Rattle.answers.specs.declared.Answer.TheVariants as A
use Rattle.answers.specs.Outcomes.{Verdict}
use Rattle.std.specs.Prelude.{Ok, Err}
use Rattle.model.specs.Floor.{one_goal, opening_table}
use Rattle.model.specs.Checks.{floor_of, goals}
use Rattle.answers.specs.declared.Report.{Report}
use Rattle.model.specs.Decision.{Outcome, decide}
use Rattle.model.specs.Ride.{TrialOutcome}
use Rattle.worked.proofs.Text.{bytes}

-- width 3, height 3, rows `...`, `@@.`, `...`
abbrev pub hall : List ℕ
hall = 0 ∷ 0 ∷ 0 ∷ 1 ∷ 1 ∷ 0 ∷ 0 ∷ 0 ∷ 0 ∷ []

-- a job on it, its goal 0
abbrev pub job : (depth p q quota : ℕ) → Job
job depth p q quota = record { width = 3; height = 3; goals = one_goal 0; depth = depth; p = p; q = q; quota = quota }

-- the opening table of a job
abbrev pub opening_of : Job → List ℕ → List ℕ
opening_of j bytes = opening_table (floor_of j bytes) j.q (goals j)

-- the opening table with q 1
abbrev pub figures : List ℕ
figures = 0 ∷ 10 ∷ 20 ∷ 10 ∷ 14 ∷ 24 ∷ 20 ∷ 24 ∷ 28 ∷ []

-- a state by its three fields
abbrev pub state : (current learned length : ℕ) → State
state current learned length = record { current = current; learned = learned; length = length }

-- a path list with nothing in it yet, and a moves list with two places to spare
abbrev pub fresh : List ℕ
fresh = replicate 9 77

abbrev pub buffer : List ℕ
buffer = replicate 290 9

-- an outcome by its parts
abbrev pub leaves : Answer → State → (table path moves : List ℕ) → Outcome
leaves answer state table path moves = record { answer = answer; state = state; table = table; path = path; moves = moves }

-- a refusal by its number and place, as a verdict and as a decision's answer
abbrev pub no : ℕ → Place → Verdict
no number place = Err (record { number = number; place = place })

abbrev pub refuses : ℕ → Place → Answer
refuses number place = A.Refused (record { number = number; place = place })

-- the middle row `@@@`
abbrev pub shut : List ℕ
shut = 0 ∷ 0 ∷ 0 ∷ 1 ∷ 1 ∷ 1 ∷ 0 ∷ 0 ∷ 0 ∷ []

-- rows `.@.`, `@.@`, `.@.`: the middle, 4, is shut in by corners alone
abbrev pub boxed : List ℕ
boxed = 0 ∷ 1 ∷ 0 ∷ 1 ∷ 0 ∷ 1 ∷ 0 ∷ 1 ∷ 0 ∷ []

-- the first decision of a trial from 6, its moves from place 1 on
abbrev pub first_of : Job → Outcome
first_of j = decide j hall (state 6 0 0) (opening_of j hall) fresh buffer 1

-- a trial's report by its four counts, and what the trial leaves
abbrev pub made : (decisions learned kept travel : ℕ) → (table path : List ℕ) → TrialOutcome
made decisions learned kept travel table path = record {
  answer = Ok (record { decisions = decisions; learned = learned; kept = kept; travel = travel });
  table = table;
  path = path;
}

-- a job on one row
abbrev pub row_job : (width goal depth quota : ℕ) → Job
row_job width goal depth quota = record { width = width; height = 1; goals = one_goal goal; depth = depth; p = 1; q = 1; quota = quota }

-- records that nothing was written to
abbrev pub blank : Report
blank = record { decisions = 7; learned = 7; kept = 7; travel = 7 }

-- the table that the worked run leaves, and its file: as it is written, and as it was in edition 1
abbrev pub learnt : List ℕ
learnt = 0 ∷ 10 ∷ 20 ∷ 10 ∷ 14 ∷ 30 ∷ 60 ∷ 50 ∷ 40 ∷ []

abbrev pub worked_records : List ℕ
worked_records = 0 ∷ 5 ∷ 0 ∷ 0 ∷ 0 ∷ 30 ∷ 0 ∷ 6 ∷ 0 ∷ 0 ∷ 0 ∷ 60 ∷ 0 ∷ 7 ∷ 0 ∷ 0 ∷ 0 ∷ 50 ∷ 0 ∷ 8 ∷ 0 ∷ 0 ∷ 0 ∷ 40 ∷ []

abbrev pub worked_file : List ℕ
worked_file =
    worked_records
    ++ (3 ∷ 3 ∷ 1 ∷ 0 ∷ 0 ∷ 0 ∷ 255 ∷ 255 ∷ 255 ∷ 255 ∷ 255 ∷ 255 ∷ 1 ∷ 2 ∷ 0 ∷ 4 ∷ 0 ∷ 0 ∷ 0 ∷ 48 ∷ 80 ∷ 68 ∷ 76 ∷ 84 ∷ [])

abbrev pub first_file : List ℕ
first_file = worked_records ++ (3 ∷ 3 ∷ 0 ∷ 0 ∷ 1 ∷ 1 ∷ 0 ∷ 4 ∷ 0 ∷ 0 ∷ 0 ∷ 40 ∷ 80 ∷ 68 ∷ 76 ∷ 84 ∷ [])

-- the worked floor as text
abbrev pub hall_text : List ℕ
hall_text = bytes "type octile\nheight 3\nwidth 3\nmap\n...\n@@.\n...\n"

-- rows `@@@.....@@`, `@@...@...@`, `@...@@@...`, `...@@@@@.@`, `.........@`: from 40 to 28 in eight moves, six of them diagonal (104), or in ten straight ones (100), the ninth of them to 38
abbrev pub two_ways : List ℕ
two_ways =
    1 ∷ 1 ∷ 1 ∷ 0 ∷ 0 ∷ 0 ∷ 0 ∷ 0 ∷ 1 ∷ 1 ∷ 1 ∷ 1 ∷ 0 ∷ 0 ∷ 0 ∷ 1 ∷ 0 ∷ 0 ∷ 0 ∷ 1 ∷ 1 ∷ 0 ∷ 0 ∷ 0 ∷ 1 ∷ 1 ∷ 1 ∷ 0 ∷ 0 ∷ 0
    ∷ 0 ∷ 0 ∷ 0 ∷ 1 ∷ 1 ∷ 1 ∷ 1 ∷ 1 ∷ 0 ∷ 1 ∷ 0 ∷ 0 ∷ 0 ∷ 0 ∷ 0 ∷ 0 ∷ 0 ∷ 0 ∷ 0 ∷ 1 ∷ []

-- a job on it at depth 8, its goal 29, beside 28; and its opening table but for 28, which has 0, so that 28 is the target from 40
abbrev pub two_ways_job : Job
two_ways_job = record { width = 10; height = 5; goals = one_goal 29; depth = 8; p = 1; q = 1; quota = 1000 }

abbrev pub two_ways_table : List ℕ
two_ways_table = set (opening_of two_ways_job two_ways) 28 0
