-- Smoother routes: on floors with slow cells, the route of fewest moves among those of one cost, forward, backed out and printed, beside document 01's.
use Prim.Native.Nat.{ℕ}
use mathlib.Core.Path.{◌≡◌, refl}
use mathlib.Core.List.{List, [], ◌∷◌}
use lib.ListN.{set, replicate}
use Rattle.answers.specs.declared.Answer.TheVariants as A
use Rattle.answers.specs.declared.Job.{Job}
use Rattle.model.specs.Floor.{one_goal}
use Rattle.model.specs.Decision.{Outcome, decide}
use Rattle.model.specs.Line.{aisle}
use Rattle.model.specs.Lookahead.{seen, w, route}
use Rattle.model.specs.Compute.{compute}
use Rattle.model.proofs.Chosen.{first_route}
use Rattle.worked.proofs.Hall.{state, leaves}
use Rattle.worked.proofs.Text.{bytes}

-- rows `...`, `.SS`, `..S`, to cell 1
abbrev lane : List ℕ
lane = 0 ∷ 0 ∷ 0 ∷ 0 ∷ 2 ∷ 2 ∷ 0 ∷ 0 ∷ 2 ∷ []

abbrev by_lane : Job
by_lane = record { width = 3; height = 3; goals = one_goal 1; depth = 2; p = 1; q = 1; quota = 1000 }

-- rows `..S`, `.SS`, `..S`, `S.S`, to cell 11
abbrev yard : List ℕ
yard = 0 ∷ 0 ∷ 2 ∷ 0 ∷ 2 ∷ 2 ∷ 0 ∷ 0 ∷ 2 ∷ 2 ∷ 0 ∷ 2 ∷ []

abbrev in_yard : (quota : ℕ) → Job
in_yard quota = record { width = 3; height = 4; goals = one_goal 11; depth = 3; p = 1; q = 1; quota = quota }

-- figures that lead to cell 10, and a path list that begins with a cell
abbrev to_ten : List ℕ
to_ten = set (replicate 12 99) 10 0

abbrev path_of : ℕ → List ℕ
path_of x = x ∷ replicate 11 77

-- a decision in the yard, and what it leaves
abbrev decided : (quota current length : ℕ) → List ℕ → Outcome
decided quota current length path = decide (in_yard quota) yard (state current 0 length) to_ten path (replicate 288 9) 0

-- rows `..S`, `.S.`, `.S.`, `SS.`, to cell 3, which is two moves from 11
abbrev rack : List ℕ
rack = 0 ∷ 0 ∷ 2 ∷ 0 ∷ 2 ∷ 0 ∷ 0 ∷ 2 ∷ 0 ∷ 2 ∷ 2 ∷ 0 ∷ []

abbrev by_rack : Job
by_rack = record { width = 3; height = 4; goals = one_goal 3; depth = 3; p = 1; q = 1; quota = 0 }

-- 3 × 3 cells, none slow
abbrev bare : List ℕ
bare = replicate 9 0

pub record PinsRoutes : Type 0 where
  -- at 48 by 4 in two moves, and by 7 and 3 in three, where 3 is the lower one: "the one with fewest moves is to be taken"
  pub fewest : route by_lane lane 8 1 ≡ 4 ∷ 1 ∷ []
  pub weaving : first_route by_lane lane 8 1 ≡ 7 ∷ 3 ∷ 1 ∷ []
  -- at 58 in three moves by 4 and by 5, and in four by 1, 3 and 6: of those with fewest the lower cell; and "each cell it picks must leave a fewest-move route":
  -- before 7 the lower cell is 3, from which no such route goes on
  pub cost : w (in_yard 0) yard (seen (in_yard 0) yard 2) 10 ≡ 58
  pub tied : route (in_yard 0) yard 2 10 ≡ 4 ∷ 7 ∷ 10 ∷ []
  pub tied_weaving : first_route (in_yard 0) yard 2 10 ≡ 1 ∷ 3 ∷ 6 ∷ 10 ∷ []
  -- "backing out, move counts and printed moves all follow it"
  pub forward : decided 1000 2 0 (replicate 12 77)
      ≡ leaves (A.Forward 10 30 3) (state 10 30 1) (set to_ten 2 129) (path_of 2) (5 ∷ 4 ∷ 4 ∷ replicate 285 9)
  pub backed_out : decided 0 10 1 (path_of 2) ≡ leaves (A.BackedOut 2 109 3) (state 2 0 0) (set to_ten 10 109) (path_of 2) (0 ∷ 0 ∷ 1 ∷ replicate 285 9)
  pub printed : aisle (bytes "8 1 2\ntype octile\nheight 3\nwidth 3\nmap\n...\n.SS\n..S\n") ≡ bytes "70 1 24 48 48\n70 1 0 48 48\nsettled 2\n"
  -- it stays in the window, which ends with the goal's ring: past that 48 leads there by 8, 5 and 1
  pub in_window : route by_rack rack 11 3 ≡ 7 ∷ 3 ∷ []
  -- without slow cells it is document 01's
  pub same : route by_lane bare 8 1 ≡ first_route by_lane bare 8 1

pub pins_routes : PinsRoutes
unfolding compute
pins_routes = record {
  fewest = refl;
  weaving = refl;
  cost = refl;
  tied = refl;
  tied_weaving = refl;
  forward = refl;
  backed_out = refl;
  printed = refl;
  in_window = refl;
  same = refl;
}
