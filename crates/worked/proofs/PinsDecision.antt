-- What P1 to P12 leave open of a decision past its checks: the moves and their corners, the lookahead, the path and backing out.
use Prim.Native.Nat.{ℕ, ◌*◌}
use mathlib.Core.Path.{◌≡◌, refl}
use mathlib.Core.List.{List, [], ◌∷◌, map}
use lib.ListN.{set, replicate, take}
use Rattle.answers.specs.declared.Job.{Job}
use Rattle.answers.specs.declared.State.{State}
use Rattle.answers.specs.declared.Place.TheVariants as P
use Rattle.answers.specs.declared.Answer.TheVariants as A
use Rattle.model.specs.Basics.{choose}
use Rattle.model.specs.Floor.{one_goal, Floor, allowed}
use Rattle.model.specs.Decision.{Outcome, decide}
use Rattle.model.specs.Compute.{compute}
use Rattle.worked.proofs.Hall.{hall, job, figures, state, fresh, buffer, leaves, refuses, boxed, first_of, row_job, two_ways, two_ways_job, two_ways_table}

-- on the worked floor, moves from place 0 on
abbrev on : Job → State → (table path : List ℕ) → Outcome
on j s table path = decide j hall s table path buffer 0

-- the first decision of a trial with quota 1000 on w × h free cells
abbrev clear : (w h goal depth current : ℕ) → (table : List ℕ) → Outcome
clear w h goal depth current table =
    decide (record { width = w; height = h; goals = one_goal goal; depth = depth; p = 1; q = 1; quota = 1000 }) (replicate (w * h) 0) (state current 0 0) table fresh buffer 0

-- from the middle of 3 × 3 free cells to a goal beside it, with figure 9 at all other cells
abbrev towards : ℕ → Outcome
towards goal = clear 3 3 goal 1 4 (set (replicate 9 9) goal 0)

-- the moves of an answer's first place
abbrev first_move : Outcome → List ℕ
first_move o = take 1 o.moves

-- a path list that begins with these cells
abbrev path1 : ℕ → List ℕ
path1 a = a ∷ replicate 8 77

-- rows `......@`, `...@...`, `..@@@..`, `......@`: from 14 to 20 in six moves, four of them diagonal, or in seven, one of them diagonal
abbrev bend : List ℕ
bend =
    0 ∷ 0 ∷ 0 ∷ 0 ∷ 0 ∷ 0 ∷ 1 ∷ 0 ∷ 0 ∷ 0 ∷ 1 ∷ 0 ∷ 0 ∷ 0 ∷ 0 ∷ 0 ∷ 1 ∷ 1 ∷ 1 ∷ 0 ∷ 0 ∷ 0 ∷ 0 ∷ 0 ∷ 0 ∷ 0 ∷ 0 ∷ 1 ∷ []

-- the figures on it: 13 and 19, on the goal's ring too, have 90
abbrev bend_table : List ℕ
bend_table = set (set (replicate 28 0) 13 90) 19 90

-- those of some moves that are allowed from x
abbrev those : Floor → ℕ → List ℕ → List ℕ
those f x [] = []
those f x (m ∷ ms) = choose (allowed f x m) (m ∷ those f x ms) (those f x ms)

-- all that are, on a floor of w × h cells
abbrev ways : (w h : ℕ) → (bytes : List ℕ) → ℕ → List ℕ
ways w h bytes x = those (record { width = w; height = h; bytes = bytes }) x (0 ∷ 1 ∷ 2 ∷ 3 ∷ 4 ∷ 5 ∷ 6 ∷ 7 ∷ [])

pub record PinsDecision : Type 0 where
  -- Eight moves, numbered clockwise from north; a straight move costs 10, a diagonal one 14
  pub moves : map (λ g. first_move (towards g)) (1 ∷ 2 ∷ 5 ∷ 8 ∷ 7 ∷ 6 ∷ 3 ∷ 0 ∷ [])
      ≡ (0 ∷ []) ∷ (1 ∷ []) ∷ (2 ∷ []) ∷ (3 ∷ []) ∷ (4 ∷ []) ∷ (5 ∷ []) ∷ (6 ∷ []) ∷ (7 ∷ []) ∷ []
  pub costs : map (λ g. (towards g).answer) (1 ∷ 2 ∷ 5 ∷ 8 ∷ 7 ∷ 6 ∷ 3 ∷ 0 ∷ [])
      ≡ A.Forward 1 1 1 ∷ A.Forward 2 5 1 ∷ A.Forward 5 1 1 ∷ A.Forward 8 5 1 ∷ A.Forward 7 1 1 ∷ A.Forward 6 5 1 ∷ A.Forward 3 1 1 ∷ A.Forward 0 5 1 ∷ []
  -- A move is allowed when the cell moved into is on the floor and free: from 7, and from the middle of one column
  pub allows : ways 3 3 hall 7 ≡ 2 ∷ 6 ∷ []
  pub allows_column : ways 1 3 (replicate 3 0) 1 ≡ 0 ∷ 4 ∷ []
  -- A diagonal needs both straight cells beside it free as well: from the middle of 3 × 3 cells, with that to the north, east, south or west blocked
  pub one_corner : map (λ b. ways 3 3 (set (replicate 9 0) b 1) 4) (1 ∷ 5 ∷ 7 ∷ 3 ∷ [])
      ≡ (2 ∷ 3 ∷ 4 ∷ 5 ∷ 6 ∷ []) ∷ (0 ∷ 4 ∷ 5 ∷ 6 ∷ 7 ∷ []) ∷ (0 ∷ 1 ∷ 2 ∷ 6 ∷ 7 ∷ []) ∷ (0 ∷ 1 ∷ 2 ∷ 3 ∷ 4 ∷ []) ∷ []
  -- on a floor wider than high, too; and a blocked cell is in the way of no move but those into it and past it
  pub corner-oblong : map (ways 4 2 (set (replicate 8 0) 2 1)) (5 ∷ 6 ∷ []) ≡ (0 ∷ 2 ∷ 6 ∷ 7 ∷ []) ∷ (2 ∷ 6 ∷ []) ∷ []
  -- with both blocked: a cell shut in by corners alone has no move, and a decision there is refused by 9
  pub two_corners : ways 3 3 boxed 4 ≡ []
  pub shut_in : decide (job 1 1 1 1000) boxed (state 4 0 0) figures fresh buffer 0 ≡ leaves (refuses 9 P.Nowhere) (state 4 0 0) figures fresh buffer
  -- at the floor's edge: on 2 × 2 free cells each has one diagonal, and none has with 1 blocked
  pub edge_corners : map (ways 2 2 (replicate 4 0)) (0 ∷ 1 ∷ 2 ∷ 3 ∷ []) ≡ (2 ∷ 3 ∷ 4 ∷ []) ∷ (4 ∷ 5 ∷ 6 ∷ []) ∷ (0 ∷ 1 ∷ 2 ∷ []) ∷ (0 ∷ 6 ∷ 7 ∷ []) ∷ []
  pub edge_blocked : map (ways 2 2 (0 ∷ 1 ∷ 0 ∷ 0 ∷ [])) (0 ∷ 2 ∷ 3 ∷ []) ≡ (4 ∷ []) ∷ (0 ∷ 2 ∷ []) ∷ (6 ∷ []) ∷ []
  -- the cell moved into is on the floor: a move is named by where it goes, at every edge
  pub edge_east : first_move (clear 3 1 2 1 0 (0 ∷ 0 ∷ 0 ∷ [])) ≡ 2 ∷ []
  pub edge_south : first_move (clear 1 3 2 1 0 (0 ∷ 0 ∷ 0 ∷ [])) ≡ 4 ∷ []
  pub edge_north : first_move (clear 1 3 0 1 2 (0 ∷ 0 ∷ 0 ∷ [])) ≡ 0 ∷ []
  pub edge_south_west : first_move (clear 2 2 2 1 1 (9 ∷ 0 ∷ 0 ∷ 9 ∷ [])) ≡ 5 ∷ []
  pub edge_west : first_move (clear 2 2 2 1 3 (9 ∷ 9 ∷ 0 ∷ 9 ∷ [])) ≡ 6 ∷ []
  pub edge_south_east : first_move (clear 2 2 3 1 0 (0 ∷ 9 ∷ 9 ∷ 0 ∷ [])) ≡ 3 ∷ []
  -- and no move leads from the end of a row to the next one's first cell
  pub no_wrap : (decide (record { width = 3; height = 2; goals = one_goal 3; depth = 1; p = 1; q = 1; quota = 0 }) (1 ∷ 1 ∷ 0 ∷ 0 ∷ 1 ∷ 1 ∷ []) (state 2 0 0) (replicate 6 0) fresh buffer 0).answer
      ≡ refuses 9 P.Nowhere
  -- A floor byte 0 is free, 2 is slow and free, every other is blocked
  pub byte_2 : (decide (row_job 3 2 1 20) (0 ∷ 2 ∷ 0 ∷ []) (state 0 0 0) (0 ∷ 0 ∷ 0 ∷ []) fresh buffer 0).answer ≡ A.Forward 1 20 1
  pub byte_3 : (decide (row_job 3 2 1 20) (0 ∷ 3 ∷ 0 ∷ []) (state 0 0 0) (0 ∷ 0 ∷ 0 ∷ []) fresh buffer 0).answer ≡ refuses 9 P.Nowhere
  pub byte_255 : (decide (row_job 3 2 1 20) (0 ∷ 255 ∷ 0 ∷ []) (state 0 0 0) (0 ∷ 0 ∷ 0 ∷ []) fresh buffer 0).answer ≡ refuses 9 P.Nowhere
  -- The last ring m is d, or the goal's ring if that is smaller: beside the goal the true figure isn't raised
  pub beside-goal : on (job 2 1 1 1000) (state 1 0 0) figures fresh ≡ leaves (A.Forward 0 0 1) (state 0 0 1) figures (path1 1) (6 ∷ replicate 289 9)
  pub goal-seen : (on (job 8 1 1 1000) (state 6 0 0) figures fresh).answer ≡ A.Forward 0 40 6
  -- an empty ring after the goal's is no fault
  pub goal_first : (clear 2 1 1 2 0 (0 ∷ 0 ∷ [])).answer ≡ A.Forward 1 10 1
  -- but one up to d is, where the goal is in none before it
  pub ring_2_empty : (decide (row_job 4 3 2 0) (0 ∷ 0 ∷ 1 ∷ 0 ∷ []) (state 0 0 0) (0 ∷ 0 ∷ 0 ∷ 0 ∷ []) fresh buffer 0).answer ≡ refuses 9 P.Nowhere
  pub ring_1_full : (decide (row_job 4 3 1 0) (0 ∷ 0 ∷ 1 ∷ 0 ∷ []) (state 0 0 0) (10 ∷ 0 ∷ 0 ∷ 0 ∷ []) fresh buffer 0).answer ≡ A.Forward 1 0 1
  -- w may use more moves than x's ring: six moves, four diagonal (76), lose to seven, one diagonal (74)
  pub more_moves : decide (record { width = 7; height = 4; goals = one_goal 20; depth = 6; p = 1; q = 1; quota = 1000 }) bend (state 14 0 0) bend_table (replicate 28 77) buffer 0
      ≡ leaves (A.Forward 20 74 7) (state 20 74 1) (set bend_table 14 74) (14 ∷ replicate 27 77) (3 ∷ 2 ∷ 2 ∷ 2 ∷ 2 ∷ 0 ∷ 2 ∷ replicate 283 9)
  -- but stays in the window: 104, and so a rise of 6, since 38, on the way that costs 100, is on ring 9
  pub in_window : (decide two_ways_job two_ways (state 40 0 0) two_ways_table (replicate 50 77) buffer 0).answer ≡ A.Forward 28 6 8
  -- Where 003 heads straight for a goal it sees, this rule still decides: a cell of the goal's ring with less than it is the target
  pub goal_passed_by : (clear 2 2 3 1 0 (0 ∷ 0 ∷ 9 ∷ 0 ∷ [])).answer ≡ A.Forward 1 10 1
  -- The new figure is the greatest of the m bests, the target the best of ring m alone
  pub greatest : (clear 4 1 3 2 0 (0 ∷ 50 ∷ 0 ∷ 0 ∷ [])).answer ≡ A.Forward 2 60 2
  -- p × w(x) + figure(x), p and q apart
  pub weight : (decide (job 1 2 3 1000) hall (state 6 0 0) (0 ∷ 30 ∷ 60 ∷ 30 ∷ 42 ∷ 72 ∷ 60 ∷ 72 ∷ 84 ∷ []) fresh buffer 0).answer ≡ A.Forward 7 32 1
  -- and so for the target: by p it is 3, one diagonal move away, by q it would be 1
  pub weight-target : (decide (record { width = 2; height = 2; goals = one_goal 3; depth = 1; p = 1; q = 2; quota = 1000 }) (replicate 4 0) (state 0 0 0) (0 ∷ 6 ∷ 100 ∷ 0 ∷ []) fresh buffer 0).answer
      ≡ A.Forward 3 14 1
  -- ties go to the lower cell number, though the other one is the goal
  pub tie : (clear 3 1 2 1 1 (0 ∷ 9 ∷ 0 ∷ [])).answer ≡ A.Forward 0 1 1
  -- the route goes by the lowest-numbered window cell
  pub lowest : clear 3 2 5 2 0 (0 ∷ 0 ∷ 10 ∷ 0 ∷ 0 ∷ 0 ∷ []) ≡ leaves (A.Forward 5 24 2) (state 5 24 1) (24 ∷ 0 ∷ 10 ∷ 0 ∷ 0 ∷ 0 ∷ []) (path1 0) (2 ∷ 3 ∷ replicate 288 9)
  -- If the new figure is greater than the current cell's, store it; else the learned amount is 0 and no table entry is touched
  pub unraised : on (job 1 1 1 1000) (state 7 0 1) (set figures 7 100) (path1 6) ≡ leaves (A.Forward 6 0 1) (state 6 0 0) (set figures 7 100) (6 ∷ 7 ∷ replicate 7 77) (6 ∷ replicate 289 9)
  -- If u + a ≤ q × T: go forward
  pub quota-met : on (job 1 1 1 28) (state 7 14 1) (set figures 6 34) (path1 6)
      ≡ leaves (A.Forward 8 14 1) (state 8 28 2) (set (set figures 6 34) 7 38) (6 ∷ 7 ∷ replicate 7 77) (2 ∷ replicate 289 9)
  -- Otherwise back out: u stays, the last cell is taken off, its entry stays in the list, and the cart goes there
  pub quota_passed : on (job 1 1 1 27) (state 7 14 1) (set figures 6 34) (path1 6)
      ≡ leaves (A.BackedOut 6 14 1) (state 6 14 0) (set (set figures 6 34) 7 38) (path1 6) (6 ∷ replicate 289 9)
  -- q × T, in units of 1/q
  pub quota-unit : (first_of (job 1 1 2 9)).answer ≡ A.Forward 7 18 1
  pub quota_unit_passed : (first_of (job 1 1 2 8)).answer ≡ A.Stayed 18
  -- With none it stays, and u stays
  pub stays : on (job 1 1 1 5) (state 6 5 0) figures fresh ≡ leaves (A.Stayed 14) (state 6 5 0) (set figures 6 34) fresh buffer
  -- which asks for the last ring of the cell taken off, here ring 1, the goal's, though the depth is 2
  pub last_ring : decide (row_job 3 0 2 0) (replicate 3 0) (state 2 0 1) (replicate 3 0) (path1 1) buffer 0 ≡ leaves (A.BackedOut 1 20 1) (state 1 0 0) (0 ∷ 0 ∷ 20 ∷ []) (path1 1) (6 ∷ replicate 289 9)
  -- by the reverse of that cell's own route: order turned round, each move the opposite one
  pub reverse : on (job 2 1 1 28) (state 5 28 1) figures (path1 7) ≡ leaves (A.BackedOut 7 6 2) (state 7 28 0) (set figures 5 30) (path1 7) (4 ∷ 6 ∷ replicate 288 9)
  -- its own: seen from 5, which is two moves away, though the goal beside the current cell shuts 5 out of that cell's window
  pub own_route : on (job 2 1 1 0) (state 1 0 2) (set figures 1 0) (8 ∷ 5 ∷ replicate 7 77) ≡ leaves (A.BackedOut 5 10 2) (state 5 0 1) figures (8 ∷ 5 ∷ replicate 7 77) (2 ∷ 4 ∷ replicate 288 9)
  -- If the target is already on the path, the length is cut so that the target and all after it are off the path; old entries remain
  pub cut : on (job 1 1 1 1000) (state 7 3 3) (set (set figures 5 40) 6 40) (5 ∷ 8 ∷ 6 ∷ replicate 6 77)
      ≡ leaves (A.Forward 8 14 1) (state 8 17 1) (set (set (set figures 5 40) 6 40) 7 38) (5 ∷ 8 ∷ 6 ∷ 7 ∷ replicate 5 77) (2 ∷ replicate 289 9)
  -- entries beyond the length are no part of the path
  pub beyond : on (job 1 1 1 1000) (state 6 0 0) figures (7 ∷ 7 ∷ 6 ∷ 0 ∷ 3 ∷ replicate 4 77) ≡ leaves (A.Forward 7 14 1) (state 7 14 1) (set figures 6 34) (6 ∷ 7 ∷ 6 ∷ 0 ∷ 3 ∷ replicate 4 77)
      (2 ∷ replicate 289 9)
  -- At the goal: done, nothing changes
  pub arrived : on (job 1 1 1 1000) (state 0 7 1) (set figures 0 3) (path1 6) ≡ leaves A.Arrived (state 0 7 1) (set figures 0 3) (path1 6) buffer

pub pins_decision : PinsDecision
unfolding compute
pins_decision = record {
  moves = refl;
  costs = refl;
  allows = refl;
  allows_column = refl;
  one_corner = refl;
  corner-oblong = refl;
  two_corners = refl;
  shut_in = refl;
  edge_corners = refl;
  edge_blocked = refl;
  edge_east = refl;
  edge_south = refl;
  edge_north = refl;
  edge_south_west = refl;
  edge_west = refl;
  edge_south_east = refl;
  no_wrap = refl;
  byte_2 = refl;
  byte_3 = refl;
  byte_255 = refl;
  beside-goal = refl;
  goal-seen = refl;
  goal_first = refl;
  ring_2_empty = refl;
  ring_1_full = refl;
  more_moves = refl;
  in_window = refl;
  goal_passed_by = refl;
  greatest = refl;
  weight = refl;
  weight-target = refl;
  tie = refl;
  lowest = refl;
  unraised = refl;
  quota-met = refl;
  quota_passed = refl;
  quota-unit = refl;
  quota_unit_passed = refl;
  stays = refl;
  last_ring = refl;
  reverse = refl;
  own_route = refl;
  cut = refl;
  beyond = refl;
  arrived = refl;
}
