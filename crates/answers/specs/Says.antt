-- What each case of each answer says: document 01's number, the place named, and the values.
use Rattle.std.specs.Prelude.{ℕ, Bool, true, false, List, [], ◌∷◌}
use Rattle.answers.specs.declared.Place.{Place}
use Rattle.answers.specs.declared.Place.TheVariants as P
use Rattle.answers.specs.declared.Refusal.{Refusal}
use Rattle.answers.specs.declared.Answer.{Answer}
use Rattle.answers.specs.declared.Answer.TheVariants as A
use Rattle.answers.specs.Outcomes.{Verdict, Tried, Ran, FloorRead, Written}
use Rattle.std.specs.Prelude.{Ok, Err}

-- An answer in document 01's number and values. The kind tells apart the answers of a decision that all say 0.
-- Every case of an answer says as many values; 0 stands where a case has none.
pub record Said : Type 0 where
  pub number : ℕ
  pub place : Place
  pub kind : ℕ
  pub values : List ℕ

-- 0, done; and a refusal by its number and place, with the counts of its kind of answer, which are 0.
abbrev pub done : ℕ → List ℕ → Said
done kind values = record { number = 0; place = P.Nowhere; kind = kind; values = values }

abbrev pub refuses : ℕ → Refusal → List ℕ → Said
refuses kind r zeros = record { number = r.number; place = r.place; kind = kind; values = zeros }

-- a decision: the target, the rise and the number of moves
abbrev pub says_answer : Answer → Said
says_answer A.Arrived = done 0 (0 ∷ 0 ∷ 0 ∷ [])
says_answer (A.Forward target rise moves) = done 1 (target ∷ rise ∷ moves ∷ [])
says_answer (A.BackedOut target rise moves) = done 2 (target ∷ rise ∷ moves ∷ [])
says_answer (A.Stayed rise) = done 3 (0 ∷ rise ∷ 0 ∷ [])
says_answer (A.Refused r) = refuses 4 r (0 ∷ 0 ∷ 0 ∷ [])

-- a number alone
abbrev pub says_verdict : Verdict → Said
says_verdict (Ok _) = done 0 []
says_verdict (Err r) = refuses 1 r []

-- a trial: its four counts
abbrev pub says_tried : Tried → Said
says_tried (Ok r) = done 0 (r.decisions ∷ r.learned ∷ r.kept ∷ r.travel ∷ [])
says_tried (Err r) = refuses 1 r (0 ∷ 0 ∷ 0 ∷ 0 ∷ [])

-- a run: the trials made, and 1 where it is settled
abbrev pub flag : Bool → ℕ
flag true = 1
flag false = 0

abbrev pub says_ran : Ran → Said
says_ran (Ok m) = done 0 (m.trials ∷ flag m.settled ∷ [])
says_ran (Err r) = refuses 1 r (0 ∷ 0 ∷ [])

-- a floor text: width and height
abbrev pub says_floor_read : FloorRead → Said
says_floor_read (Ok z) = done 0 (z.width ∷ z.height ∷ [])
says_floor_read (Err r) = refuses 1 r (0 ∷ 0 ∷ [])

-- a written table or floor text: its length
abbrev pub says_written : Written → Said
says_written (Ok n) = done 0 (n ∷ [])
says_written (Err r) = refuses 1 r (0 ∷ [])
