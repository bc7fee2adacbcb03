-- What the table calls promise, and what an opened table's job is known to meet.
use Rattle.std.specs.Prelude.{ℕ, ◌-◌, ◌≤◌, ◌≡◌, List, length, Result, Ok, Err}
use denote.Ref.{Bor}
use Rattle.answers.specs.Says.{says_verdict}
use Rattle.answers.specs.declared.Refusal.{Refusal}
use Rattle.answers.specs.Outcomes.{Verdict}
use Rattle.model.specs.Basics.{choose, then}
use Rattle.model.specs.Floor.{Floor, Sized, size}
use Rattle.model.specs.Checks.{finest, Benched}
use Rattle.model.specs.TableFile.{back_in, trailer_holds, find_records, check_trailer, check_ahead, judge_table}

-- what 1, 3, 4 and 27 have shown
pub record Opened (f : Floor) (q : ℕ) (gs : List ℕ) : Type 0 where
  pub sized : Sized f
  pub scale : q ≤ finest
  pub benches : Benched (size f) gs

-- where in the file the records begin, and at its start where the trailer is faulty
unfoldable pub start_of : List ℕ → ℕ
start_of file = choose (trailer_holds file) (length file - back_in file) 0

-- 13, 28, 14 and 18 to 22 of a file
abbrev pub file_verdict : Floor → ℕ → List ℕ → List ℕ → Verdict
file_verdict f q gs file = then (check_trailer file) (then (check_ahead file) (judge_table f q gs file))

-- the file's records, or the model's refusal
abbrev pub Judges : Floor → ℕ → List ℕ → List ℕ → Result (Bor (List ℕ)) Refusal → Type 0
Judges f q gs file (Ok part) = (part.now ≡ find_records file) × (file_verdict f q gs file ≡ Ok tt)
Judges f q gs file (Err r) = file_verdict f q gs file ≡ Err r

-- reading: the answer by its number and place, and the table as it is left
pub record Reads (v : Verdict) (left : List ℕ) (r : Verdict) (after : List ℕ) : Type 0 where
  pub answer : says_verdict r ≡ says_verdict v
  pub table : after ≡ left
