-- What `aisle` prints: one refusal, or the lines of a course whose every trial keeps demand 3 and is driven from the start to the bench by the moves on its line.
-- Past its checks the job is accepted on the opening table, so each of the course's rides is an accepted trial.
use Prim.Native.Nat.{ℕ, ◌*◌}
use mathlib.Core.Path.{◌≡◌, refl, ap, ◌∙◌}
use mathlib.Core.Option.{Option, none, some}
use mathlib.Core.List.{List}
use native.Mathlib.Omega.{arith}
use lib.ListN.{replicate, length-replicate}
use Rattle.answers.specs.declared.Job.{Job}
use Rattle.answers.specs.declared.Settings.{Settings}
use Rattle.answers.specs.declared.Refusal.{Refusal}
use Rattle.answers.specs.declared.Place.TheVariants as P
use Rattle.answers.specs.Outcomes.{Verdict}
use Rattle.std.specs.Prelude.{Ok, Err}
use Rattle.model.specs.Floor.{opening_table}
use Rattle.model.specs.Checks.{floor_of, goals, settings}
use Rattle.model.specs.Opening.{trials_hold}
use Rattle.model.specs.Ride.{Course, course_from}
use Rattle.model.specs.FloorText.{width_in, height_in, rows_in, cells_of, floor_verdict}
use Rattle.model.specs.Line.{job_in, read_line, after_line, course_lines, refusal_line, judge_aisle, printed, aisle}
use Rattle.model.proofs.Accepted.{then_done}
use Rattle.model.proofs.Cut.{malformed_is, asked_is}
use Rattle.model.proofs.Openings.{opened}
use Rattle.model.proofs.Rides.{course_rides}
use Rattle.model.proofs.Demand.{EachPromised, rides_are_promised}

-- the job and the floor that an input's line and text name, the table and the path that its trials start from, and its trials
module _ (s : Settings) (text : List ℕ) where
  abbrev pub job_read : Job
  job_read = job_in s (width_in text) (height_in text)

  abbrev pub floor_read : List ℕ
  floor_read = cells_of (width_in text) (height_in text) (rows_in text)

  abbrev pub table_read : List ℕ
  table_read = opening_table (floor_of job_read floor_read) s.q (goals job_read)

  abbrev pub path_read : List ℕ
  path_read = replicate (width_in text * height_in text) 0

  abbrev pub course_read : Course
  course_read = course_from job_read floor_read s.start s.trials table_read path_read

-- what an input prints: a refusal; or a line a trial, of trials one after another from the opening table, each promised (`EachPromised`)
pub data Prints (input : List ℕ) : Type 0 where
  a_refusal : (r : Refusal) → aisle input ≡ refusal_line r → Prints input
  trials : (s : Settings) → read_line input ≡ some s
      → aisle input ≡ course_lines (job_read s (after_line input)) (floor_read s (after_line input)) (course_read s (after_line input))
      → EachPromised (job_read s (after_line input)) (floor_read s (after_line input)) s.start (table_read s (after_line input)) (path_read s (after_line input)) (course_read s (after_line input)).rides
      → Prints input

course_promised : (s : Settings) (text : List ℕ) → judge_aisle s text ≡ Ok tt
    → EachPromised (job_read s text) (floor_read s text) s.start (table_read s text) (path_read s text) (course_read s text).rides
unfolding judge_aisle
course_promised s text e =
    let (three, after-three) = then_done (settings (job_read s text)) _ e in
    let (count, after-count) = then_done (trials_hold s.trials) _ after-three in
    let (read, accepted) = then_done (floor_verdict text 4096) _ after-count in
    rides_are_promised (job_read s text) (floor_read s text) s.start
    (course_rides (job_read s text) (floor_read s text) s.start s.trials (table_read s text) (path_read s text)
    (record { opened = opened (job_read s text) (floor_read s text) s.start (table_read s text) accepted; room = omega (arith, length-replicate {A = ℕ} (width_in text * height_in text) 0) }))

pub aisle-prints : (input : List ℕ) → Prints input
aisle-prints input = by (read_line input) refl
  where
    by : (o : Option Settings) → read_line input ≡ o → Prints input
    by none e = a_refusal (record { number = 3; place = P.Nowhere }) (malformed_is input e)
    by (some s) e = next (judge_aisle s (after_line input)) refl
      where
        told : aisle input ≡ printed (judge_aisle s (after_line input)) s (after_line input)
        told = asked_is input s e

        next : (v : Verdict) → judge_aisle s (after_line input) ≡ v → Prints input
        next (Err r) f = a_refusal r (told ∙ ap (λ v. printed v s (after_line input)) f)
        next (Ok _) f = trials s e (told ∙ ap (λ v. printed v s (after_line input)) f) (course_promised s (after_line input) f)
