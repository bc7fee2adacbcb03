-- What a decision judges, 1 to 5 and 8 to 10: each limit on both sides, each fault alone, and the lower number first.
-- A refused decision leaves the state and every list as given: `Refused` says it of each case.
use Prim.Native.Nat.{ℕ}
use mathlib.Core.Path.{◌≡◌, refl}
use mathlib.Core.List.{List, [], ◌∷◌, ◌++◌}
use lib.ListN.{set, replicate, take}
use Rattle.answers.specs.declared.Job.{Job}
use Rattle.answers.specs.declared.State.{State}
use Rattle.answers.specs.declared.Place.{Place}
use Rattle.answers.specs.declared.Place.TheVariants as P
use Rattle.answers.specs.declared.Answer.TheVariants as A
use Rattle.model.specs.Floor.{one_goal}
use Rattle.model.specs.Decision.{decide}
use Rattle.model.specs.Compute.{compute}
use Rattle.worked.proofs.Hall.{hall, job, figures, state, fresh, buffer, leaves, refuses, row_job}

abbrev Refused : Job → List ℕ → State → (table path moves : List ℕ) → (from number : ℕ) → Place → Type 0
Refused j bytes s table path moves from number place = decide j bytes s table path moves from ≡ leaves (refuses number place) s table path moves

-- 1 and 2, and faults of higher numbers beside them
abbrev Short : (bytes table path moves : List ℕ) → (from number : ℕ) → Type 0
Short bytes table path moves from number = Refused (job 9 1 1 1000) bytes (state 6 0 0) table path moves from number P.Nowhere

-- 4 and a figure above the ceiling
abbrev Off : Job → ℕ → Type 0
Off j current = Refused j hall (state current 0 0) (set figures 8 1834561) fresh buffer 0 4 P.Nowhere

abbrev goal_at : ℕ → Job
goal_at goal = record { width = 3; height = 3; goals = one_goal goal; depth = 1; p = 1; q = 1; quota = 1000 }

-- 8 for this state and the path's first cells, where the quota would let it go forward
abbrev Unheld : (current length : ℕ) → List ℕ → Type 0
Unheld current length cells = Refused (job 1 1 1 1000) hall (state current 0 length) figures (cells ++ replicate 9 77) buffer 0 8 P.Nowhere

pub record PinsChecks : Type 0 where
  -- 1: floor or table length not width × height; before 2
  pub floor-short : Short (take 8 hall) figures [] buffer 0 1
  pub floor-long : Short (0 ∷ hall) figures [] buffer 0 1
  pub table-short : Short hall (take 8 figures) [] buffer 0 1
  pub table-long : Short hall (0 ∷ figures) [] buffer 0 1
  -- 2: path list shorter than width × height; before 3
  pub path-short : Short hall figures (replicate 8 77) buffer 0 2
  -- 2: fewer than 288 places left for moves; a place past the end leaves none
  pub moves-short : Short hall figures fresh (replicate 288 9) 1 2
  pub from_past : Short hall figures fresh buffer 400 2
  -- at the goal too, where no move is made
  pub moves_at_goal : Refused (job 1 1 1 1000) hall (state 0 0 0) figures fresh (replicate 287 9) 0 2 P.Nowhere
  pub moves-enough : decide (job 1 1 1 1000) hall (state 6 0 0) figures fresh (replicate 289 9) 1
      ≡ leaves (A.Forward 7 14 1) (state 7 14 1) (set figures 6 34) (6 ∷ replicate 8 77) (9 ∷ 2 ∷ replicate 287 9)
  pub path_longer : (decide (job 1 1 1 1000) hall (state 6 0 0) figures (replicate 10 77) buffer 0).answer ≡ A.Forward 7 14 1
  -- 3: a setting out of range; before 4
  pub setting : Refused (job 9 1 1 1000) hall (state 3 0 0) figures fresh buffer 0 3 P.Nowhere
  -- 4: current cell or goal off the floor or blocked; before 5
  pub current_blocked : Off (goal_at 0) 3
  pub current_off : Off (goal_at 0) 9
  pub goal_blocked : Off (goal_at 4) 6
  pub goal_off : Off (goal_at 9) 6
  -- 5: a table figure above the ceiling, at a blocked cell too; names the lowest such cell; before 8 and done
  pub above : Refused (job 1 1 1 10) hall (state 0 11 0) (set (set figures 3 1834561) 8 1834561) fresh buffer 0 5 (P.Cell 3)
  pub at_ceiling : (decide (job 1 1 1 1000) hall (state 6 0 0) (set (set figures 3 1834560) 1 1834560) fresh buffer 0).answer ≡ A.Forward 7 14 1
  -- 8: u above q × T; before done
  pub u-above : Refused (job 1 1 2 5) hall (state 0 11 0) figures fresh buffer 0 8 P.Nowhere
  pub u_meets : (decide (job 1 1 2 5) hall (state 0 10 0) figures fresh buffer 0).answer ≡ A.Arrived
  -- path longer than width × height
  pub too_long : Unheld 6 10 []
  -- a path cell off the floor, blocked, the goal, repeated or equal to the current one, wherever it stands on the path
  pub path_off : Unheld 0 2 (6 ∷ 9 ∷ [])
  pub path_blocked : Unheld 0 2 (6 ∷ 3 ∷ [])
  pub path-goal : Unheld 6 2 (7 ∷ 0 ∷ [])
  pub path_repeated : Unheld 0 3 (6 ∷ 7 ∷ 6 ∷ [])
  pub path_current : Unheld 6 2 (7 ∷ 6 ∷ [])
  pub path_first : Unheld 6 2 (6 ∷ 7 ∷ [])
  pub path-later : Unheld 0 3 (7 ∷ 6 ∷ 6 ∷ [])
  -- done before 9
  pub done_first : (decide (row_job 2 0 1 0) (0 ∷ 1 ∷ []) (state 0 0 0) (0 ∷ 10 ∷ []) fresh buffer 0).answer ≡ A.Arrived
  -- 8's first part before 9
  pub eight_nine : Refused (row_job 3 2 1 0) (0 ∷ 1 ∷ 0 ∷ []) (state 0 1 0) (0 ∷ 0 ∷ 0 ∷ []) fresh buffer 0 8 P.Nowhere
  -- 9 before 8's backing-out part: with quota 0 the cell taken off, 2, could not be gone back to
  pub nine_eight : Refused (row_job 4 3 1 0) (0 ∷ 1 ∷ 0 ∷ 0 ∷ []) (state 0 0 1) (0 ∷ 0 ∷ 0 ∷ 0 ∷ []) (2 ∷ fresh) buffer 0 9 P.Nowhere
  -- 10: the new figure is greater than the one stored, and passes the ceiling
  pub ten : Refused (row_job 4 3 1 1000000) (0 ∷ 0 ∷ 1 ∷ 0 ∷ []) (state 0 0 0) (0 ∷ 1834551 ∷ 0 ∷ 0 ∷ []) fresh buffer 0 10 P.Nowhere
  pub meets_ceiling : decide (row_job 4 3 1 1000000) (0 ∷ 0 ∷ 1 ∷ 0 ∷ []) (state 0 0 0) (1000000 ∷ 1834550 ∷ 0 ∷ 0 ∷ []) fresh buffer 0
      ≡ leaves (A.Forward 1 834560 1) (state 1 834560 1) (1834560 ∷ 1834550 ∷ 0 ∷ 0 ∷ []) (0 ∷ replicate 8 77) (2 ∷ replicate 289 9)
  -- number 8's backing-out part comes after 10: the current cell not on the last ring of the cell taken off
  pub ten_eight : Refused (row_job 5 4 1 0) (0 ∷ 0 ∷ 0 ∷ 1 ∷ 0 ∷ []) (state 0 0 1) (0 ∷ 1834560 ∷ 0 ∷ 0 ∷ 0 ∷ []) (2 ∷ fresh) buffer 0 10 P.Nowhere
  -- and leaves the table as lent: too far, too near, and where a ring of the cell taken off is empty
  pub back-far : Refused (row_job 5 4 1 0) (0 ∷ 0 ∷ 0 ∷ 1 ∷ 0 ∷ []) (state 0 0 1) (0 ∷ 0 ∷ 0 ∷ 0 ∷ 0 ∷ []) (2 ∷ fresh) buffer 0 8 P.Nowhere
  pub back-near : Refused (row_job 5 4 2 0) (0 ∷ 0 ∷ 0 ∷ 0 ∷ 0 ∷ []) (state 1 0 1) (0 ∷ 0 ∷ 0 ∷ 0 ∷ 0 ∷ []) (0 ∷ fresh) buffer 0 8 P.Nowhere
  pub back-apart : Refused (row_job 5 4 1 0) (0 ∷ 0 ∷ 1 ∷ 0 ∷ 0 ∷ []) (state 3 0 1) (0 ∷ 0 ∷ 0 ∷ 0 ∷ 0 ∷ []) (0 ∷ fresh) buffer 0 8 P.Nowhere

pub pins_checks : PinsChecks
unfolding compute
pins_checks = record {
  floor-short = refl;
  floor-long = refl;
  table-short = refl;
  table-long = refl;
  path-short = refl;
  moves-short = refl;
  from_past = refl;
  moves_at_goal = refl;
  moves-enough = refl;
  path_longer = refl;
  setting = refl;
  current_blocked = refl;
  current_off = refl;
  goal_blocked = refl;
  goal_off = refl;
  above = refl;
  at_ceiling = refl;
  u-above = refl;
  u_meets = refl;
  too_long = refl;
  path_off = refl;
  path_blocked = refl;
  path-goal = refl;
  path_repeated = refl;
  path_current = refl;
  path_first = refl;
  path-later = refl;
  done_first = refl;
  eight_nine = refl;
  nine_eight = refl;
  ten = refl;
  meets_ceiling = refl;
  ten_eight = refl;
  back-far = refl;
  back-near = refl;
  back-apart = refl;
}
