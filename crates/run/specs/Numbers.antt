-- A run's records as numbers, four for each, for programs that hold no list of records.
use Rattle.std.specs.Prelude.{ℕ, zero, suc, ◌+◌, ◌*◌, ◌≤◌, ◌≡◌, List, [], ◌∷◌, ◌++◌, length, get_or, set, drop}
use Rattle.answers.specs.declared.Report.{Report}
use Rattle.answers.specs.Outcomes.{Ran}
use Rattle.answers.specs.Says.{says_ran}
use Rattle.model.specs.Ride.{RunOutcome}

-- the i-th record of a list of numbers, and its first n
abbrev pub record_at : List ℕ → ℕ → Report
record_at cs i = record { decisions = get_or cs (i * 4) 0; learned = get_or cs (i * 4 + 1) 0; kept = get_or cs (i * 4 + 2) 0; travel = get_or cs (i * 4 + 3) 0 }

unfoldable pub records : List ℕ → ℕ → List Report
records cs zero = []
records cs (suc n) = records cs n ++ (record_at cs n ∷ [])

-- the numbers of records, and of one record in its places
unfoldable pub numbers : List Report → List ℕ
numbers [] = []
numbers (r ∷ rs) = r.decisions ∷ r.learned ∷ r.kept ∷ r.travel ∷ numbers rs

abbrev pub put : List ℕ → ℕ → Report → List ℕ
put cs i r = set (set (set (set cs (i * 4) r.decisions) (i * 4 + 1) r.learned) (i * 4 + 2) r.kept) (i * 4 + 3) r.travel

-- there are numbers for n records, at most 1,001
pub record Counted (n : ℕ) (cs : List ℕ) : Type 0 where
  pub few : n ≤ 1001
  pub enough : n * 4 ≤ length cs

-- what a run of n lent records answers and leaves, its records as numbers; later numbers are untouched
pub record IsCounted (o : RunOutcome) (n : ℕ) (cs : List ℕ) (r : Ran) (table path counts : List ℕ) : Type 0 where
  pub answer_is : says_ran r ≡ says_ran o.answer
  pub table_is : table ≡ o.table
  pub path_is : path ≡ o.path
  pub counts_are : counts ≡ numbers o.reports ++ drop (n * 4) cs
