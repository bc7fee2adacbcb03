-- No older material: 28 and its place in the order of the reader's checks, and a table file renewed, each fault alone and each limit on both sides.
use Prim.Native.Nat.{ℕ}
use mathlib.Core.Path.{◌≡◌, refl}
use mathlib.Core.List.{List, [], ◌∷◌, ◌++◌, map}
use lib.ListN.{length, set, replicate, drop}
use Rattle.answers.specs.declared.Goals.{Goals}
use Rattle.answers.specs.declared.Place.TheVariants as P
use Rattle.answers.specs.Outcomes.{Verdict}
use Rattle.std.specs.Prelude.{Ok, Err}
use Rattle.model.specs.Floor.{Floor, one_goal}
use Rattle.model.specs.TableFile.{check_trailer, find_records, read_verdict, read_table}
use Rattle.model.specs.Renewal.{renew_file, longest}
use Rattle.model.specs.Compute.{compute}
use Rattle.model.proofs.Renewed.{verdict_before, table_before}
use Rattle.worked.proofs.Hall.{hall, no, learnt, worked_records, worked_file, first_file}
use Rattle.worked.proofs.PinsTable.{long_file, long_written}

abbrev floor : Floor
floor = record { width = 3; height = 3; bytes = hall }

-- what reading a file for the worked job with this q and these goals answers, and the table after; a refused reading leaves it as lent
abbrev reading : (q : ℕ) → Goals → (file : List ℕ) → Verdict × List ℕ
reading q g file = (read_verdict floor q g file 9, read_table floor q g file (replicate 9 5))

-- the same by the reader without 28
abbrev reading_before : (q : ℕ) → Goals → (file : List ℕ) → Verdict × List ℕ
reading_before q g file = (verdict_before floor q g file 9, table_before floor q g file (replicate 9 5))

abbrev Unread : (q : ℕ) → Goals → (file : List ℕ) → (number : ℕ) → Type 0
Unread q g file number = reading q g file ≡ (no number P.Nowhere, replicate 9 5)

-- renewing into so many places of 5: what is answered, and the buffer
abbrev Renewed : (file : List ℕ) → (room : ℕ) → (new : List ℕ) → Type 0
Renewed file room new = renew_file file (replicate room 5) ≡ record { answer = Ok (length new); buffer = new ++ drop (length new) (replicate room 5) }

-- a refused renewing leaves the buffer as lent
abbrev Unrenewed : (file : List ℕ) → (room number : ℕ) → Type 0
Unrenewed file room number = renew_file file (replicate room 5) ≡ record { answer = Err (record { number = number; place = P.Nowhere }); buffer = replicate room 5 }

-- trailers without records, whose job no floor has: of edition 1 with width, height and q 0 and the goal FF FF, and what that becomes; of edition 2 with nine goals, out of order
abbrev no_job : List ℕ
no_job = 0 ∷ 0 ∷ 255 ∷ 255 ∷ 0 ∷ 1 ∷ 0 ∷ 0 ∷ 0 ∷ 0 ∷ 0 ∷ 16 ∷ 80 ∷ 68 ∷ 76 ∷ 84 ∷ []

abbrev no_job_now : List ℕ
no_job_now = 0 ∷ 0 ∷ 1 ∷ 0 ∷ 255 ∷ 255 ∷ 255 ∷ 255 ∷ 255 ∷ 255 ∷ 255 ∷ 255 ∷ 0 ∷ 2 ∷ 0 ∷ 0 ∷ 0 ∷ 0 ∷ 0 ∷ 24 ∷ 80 ∷ 68 ∷ 76 ∷ 84 ∷ []

abbrev nine_goals : List ℕ
nine_goals = 255 ∷ 65 ∷ 9 ∷ 0 ∷ 0 ∷ 8 ∷ 0 ∷ 7 ∷ 0 ∷ 6 ∷ 255 ∷ 0 ∷ 17 ∷ 2 ∷ 0 ∷ 0 ∷ 0 ∷ 0 ∷ 0 ∷ 24 ∷ 80 ∷ 68 ∷ 76 ∷ 84 ∷ []

pub record PinsRenewal : Type 0 where
  -- 28 bytes ahead: one or several, in both editions, also where there is no record; a file that begins with its first record is read
  pub ahead_first : Unread 1 (one_goal 0) (9 ∷ first_file) 28
  pub ahead-second : Unread 1 (one_goal 0) (9 ∷ worked_file) 28
  pub ahead-several : Unread 1 (one_goal 0) (9 ∷ 8 ∷ 7 ∷ worked_file) 28
  pub ahead-table : Unread 1 (one_goal 0) (worked_file ++ worked_file) 28
  pub ahead_none : Unread 1 (one_goal 0) (0 ∷ drop 24 (set (set worked_file 39 0) 43 24)) 28
  pub first_record : map (reading 1 (one_goal 0)) (first_file ∷ worked_file ∷ []) ≡ (Ok tt, learnt) ∷ (Ok tt, learnt) ∷ []
  -- directly after 13: 1, 3, 4, 27 and 13 come first, 14 and the records after it
  pub one_first : read_verdict floor 1 (one_goal 0) (9 ∷ first_file) 8 ≡ no 1 P.Nowhere
  pub three_first : Unread 0 (one_goal 0) (9 ∷ first_file) 3
  pub four_first : Unread 1 (one_goal 4) (9 ∷ first_file) 4
  pub order_first : Unread 1 (record { count = 2; first = 8; second = 0; third = 0; fourth = 0 }) (9 ∷ worked_file) 27
  pub thirteen_first : Unread 1 (one_goal 0) (9 ∷ set worked_file 47 85) 13
  pub before_fourteen : map (λ q. read_verdict floor q (one_goal 0) (9 ∷ worked_file) 9) (1 ∷ 2 ∷ []) ≡ no 28 P.Nowhere ∷ no 28 P.Nowhere ∷ []
  pub before_records : Unread 1 (one_goal 0) (9 ∷ set worked_file 1 3) 28
  -- the trailer's check and the finder do not look ahead
  pub check_ahead_lem : map check_trailer ((9 ∷ first_file) ∷ (9 ∷ worked_file) ∷ []) ≡ Ok tt ∷ Ok tt ∷ []
  pub found-ahead : map find_records ((9 ∷ first_file) ∷ (9 ∷ worked_file) ∷ []) ≡ worked_records ∷ worked_records ∷ []
  -- the reader of before ignored such bytes; what it refused it refuses still
  pub before : map (reading_before 1 (one_goal 0)) ((9 ∷ first_file) ∷ (9 ∷ worked_file) ∷ []) ≡ (Ok tt, learnt) ∷ (Ok tt, learnt) ∷ []
  pub before_other : reading_before 2 (one_goal 0) (9 ∷ first_file) ≡ (no 14 P.Nowhere, replicate 9 5)
  -- Renewed: of edition 1 the records and edition 2's trailer, with one goal and three times FF FF; bytes beyond are untouched
  pub first : Renewed first_file 50 worked_file
  pub first_ahead : Renewed (9 ∷ 8 ∷ 7 ∷ first_file) 50 worked_file
  pub last_alone : Renewed (long_file ++ first_file) 50 worked_file
  pub first_none : Renewed no_job 24 no_job_now
  pub first_long_lem : Renewed (9 ∷ long_file) 31 long_written
  -- count and back take all their bytes: 257 records
  pub first_many : drop 1542 (renew_file (replicate 1542 7 ++ (3 ∷ 3 ∷ 0 ∷ 0 ∷ 1 ∷ 1 ∷ 1 ∷ 1 ∷ 0 ∷ 0 ∷ 6 ∷ 22 ∷ 80 ∷ 68 ∷ 76 ∷ 84 ∷ [])) (replicate 1566 5)).buffer
      ≡ 3 ∷ 3 ∷ 1 ∷ 0 ∷ 0 ∷ 0 ∷ 255 ∷ 255 ∷ 255 ∷ 255 ∷ 255 ∷ 255 ∷ 1 ∷ 2 ∷ 1 ∷ 1 ∷ 0 ∷ 0 ∷ 6 ∷ 30 ∷ 80 ∷ 68 ∷ 76 ∷ 84 ∷ []
  -- of edition 2 the bytes from the first record on, whatever job they name
  pub second : Renewed worked_file 49 worked_file
  pub second-ahead : Renewed (9 ∷ 8 ∷ worked_file) 48 worked_file
  pub second_nine : Renewed (9 ∷ nine_goals) 24 nine_goals
  -- 17: no room; to the byte
  pub no_room : Unrenewed first_file 47 17
  pub no_room_second : Unrenewed (9 ∷ worked_file) 47 17
  pub room : Renewed first_file 48 worked_file
  -- 13 before it: a faulty trailer, whatever the room
  pub faulty : map (λ file. renew_file file (5 ∷ [])) ([] ∷ set first_file 39 85 ∷ drop 1 first_file ∷ set worked_file 37 3 ∷ set worked_file 27 1 ∷ drop 1 worked_file ∷ [])
      ≡ replicate 6 (record { answer = Err (record { number = 13; place = P.Nowhere }); buffer = 5 ∷ [] })
  pub faulty_roomy : Unrenewed (9 ∷ set worked_file 47 85) 60 13
  -- the most bytes that a trailer can point back: 65,535 records and 24 bytes
  pub most : longest ≡ 393234

pub pins_renewal : PinsRenewal
unfolding compute
pins_renewal = record {
  ahead_first = refl;
  ahead-second = refl;
  ahead-several = refl;
  ahead-table = refl;
  ahead_none = refl;
  first_record = refl;
  one_first = refl;
  three_first = refl;
  four_first = refl;
  order_first = refl;
  thirteen_first = refl;
  before_fourteen = refl;
  before_records = refl;
  check_ahead_lem = refl;
  found-ahead = refl;
  before = refl;
  before_other = refl;
  first = refl;
  first_ahead = refl;
  last_alone = refl;
  first_none = refl;
  first_long_lem = refl;
  first_many = refl;
  second = refl;
  second-ahead = refl;
  second_nine = refl;
  no_room = refl;
  no_room_second = refl;
  room = refl;
  faulty = refl;
  faulty_roomy = refl;
  most = refl;
}
