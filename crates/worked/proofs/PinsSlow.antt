-- Slow zones: what a move costs that begins, ends or passes by a slow cell, what opening asks there, and where a cart goes round one, through it and along it.
use Prim.Native.Nat.{ℕ}
use mathlib.Core.Path.{◌≡◌, refl}
use mathlib.Core.List.{List, [], ◌∷◌, map}
use lib.ListN.{set, replicate, take}
use Rattle.answers.specs.declared.Answer.{Answer}
use Rattle.answers.specs.declared.Answer.TheVariants as A
use Rattle.answers.specs.declared.Job.{Job}
use Rattle.answers.specs.declared.Place.TheVariants as P
use Rattle.answers.specs.Outcomes.{Verdict}
use Rattle.std.specs.Prelude.{Ok}
use Rattle.model.specs.Floor.{one_goal}
use Rattle.model.specs.Decision.{Outcome, decide}
use Rattle.model.specs.Line.{aisle}
use Rattle.model.specs.Opening.{distances, open_job}
use Rattle.model.specs.Ride.{trial}
use Rattle.model.specs.Compute.{compute}
use Rattle.worked.proofs.Hall.{opening_of, state, fresh, buffer, no, row_job}
use Rattle.worked.proofs.Text.{bytes}

-- nine zeros, but that n stands at these places
abbrev marked : ℕ → List ℕ → List ℕ
marked n [] = replicate 9 0
marked n (x ∷ xs) = set (marked n xs) x n

-- a job on 3 × 3 cells
abbrev on_nine : (goal depth : ℕ) → Job
on_nine goal depth = record { width = 3; height = 3; goals = one_goal goal; depth = depth; p = 1; q = 1; quota = 1000 }

-- 3 × 3 free cells, but that these are slow
abbrev slow_at : List ℕ → List ℕ
slow_at = marked 2

-- the answer of the first decision at the middle, its figure 0, the goal's 0 and all others far above: the rise is the cost of the one move
abbrev beside : (bytes : List ℕ) → (goal : ℕ) → Answer
beside bytes goal = (decide (on_nine goal 1) bytes (state 4 0 0) (set (set (replicate 9 99) 4 0) goal 0) fresh buffer 0).answer

-- the eight cells around the middle, clockwise from north
abbrev around : List ℕ
around = 1 ∷ 2 ∷ 5 ∷ 8 ∷ 7 ∷ 6 ∷ 3 ∷ 0 ∷ []

-- the eight answers where each straight move costs a, and each diagonal one b
abbrev costing : (a b : ℕ) → List Answer
costing a b =
    A.Forward 1 a 1 ∷ A.Forward 2 b 1 ∷ A.Forward 5 a 1 ∷ A.Forward 8 b 1 ∷ A.Forward 7 a 1 ∷ A.Forward 6 b 1 ∷ A.Forward 3 a 1 ∷ A.Forward 0 b 1 ∷ []

-- rows `...`, `.S.`, `...`
abbrev post : List ℕ
post = slow_at (4 ∷ [])

-- the first decision from a cell with depth 2, the figures of these cells being far above and all others 0
abbrev two_ahead : (goal : ℕ) → (bytes : List ℕ) → (current : ℕ) → (high : List ℕ) → Outcome
two_ahead goal bytes current high = decide (on_nine goal 2) bytes (state current 0 0) (marked 99 high) fresh buffer 0

-- opening a job on a row from its last cell to cell 0, with the last cell's figure; and on two by two cells, the last one slow
abbrev along : List ℕ → (figure : ℕ) → Verdict
along bytes figure = open_job (row_job 3 0 1 0) bytes 2 (0 ∷ 10 ∷ figure ∷ [])

abbrev slant : (figure : ℕ) → Verdict
slant figure = open_job (record { width = 2; height = 2; goals = one_goal 0; depth = 1; p = 1; q = 1; quota = 0 }) (0 ∷ 0 ∷ 0 ∷ 2 ∷ []) 3 (0 ∷ 10 ∷ 10 ∷ figure ∷ [])

-- rows `...`, `S@.`, `S..`, `@.@`, `@.@`, from 0 to 13
abbrev bay : Job
bay = record { width = 3; height = 5; goals = one_goal 13; depth = 3; p = 1; q = 3; quota = 1000000 }

abbrev bay_floor : List ℕ
bay_floor = 0 ∷ 0 ∷ 0 ∷ 2 ∷ 1 ∷ 0 ∷ 2 ∷ 0 ∷ 0 ∷ 1 ∷ 0 ∷ 1 ∷ 1 ∷ 0 ∷ 1 ∷ []

pub record PinsSlow : Type 0 where
  -- "A move that begins or ends in a slow cell costs double, 20 or 28, the same each way"; once, though both ends are slow
  pub ordinary : map (beside (slow_at [])) around ≡ costing 10 14
  pub begins-slow : map (beside post) around ≡ costing 20 28
  pub ends-slow : map (λ g. beside (slow_at (g ∷ [])) g) around ≡ costing 20 28
  pub both_slow : map (λ g. beside (slow_at (4 ∷ g ∷ [])) g) around ≡ costing 20 28
  -- the cells beside a diagonal only need to be free
  pub slow_corners : beside (slow_at (1 ∷ 5 ∷ [])) 2 ≡ A.Forward 2 14 1
  pub blocked_corner : beside (set (slow_at (5 ∷ [])) 1 1) 2 ≡ A.Forward 3 109 1
  -- round a slow cell, though that is a move more: 34 where 56 leads through; the route goes 1, 5, 8
  pub round : distances (on_nine 8 2) post ≡ 34 ∷ 24 ∷ 20 ∷ 24 ∷ 28 ∷ 10 ∷ 20 ∷ 10 ∷ 0 ∷ []
  pub round-moves : (two_ahead 8 post 0 (2 ∷ 5 ∷ 6 ∷ 7 ∷ [])).answer ≡ A.Forward 8 34 3
  pub round-way : take 4 (two_ahead 8 post 0 (2 ∷ 5 ∷ 6 ∷ 7 ∷ [])).moves ≡ 2 ∷ 3 ∷ 4 ∷ 9 ∷ []
  -- through one where there is no other way, and along two
  pub through : distances (row_job 3 0 1 0) (0 ∷ 2 ∷ 0 ∷ []) ≡ 0 ∷ 20 ∷ 40 ∷ []
  pub along_two : distances (row_job 4 0 1 0) (0 ∷ 2 ∷ 2 ∷ 0 ∷ []) ≡ 0 ∷ 20 ∷ 40 ∷ 60 ∷ []
  -- start and goal may be slow
  pub ends_open : distances (row_job 3 0 1 0) (2 ∷ 0 ∷ 2 ∷ []) ≡ 0 ∷ 20 ∷ 40 ∷ []
  pub ends-met : along (2 ∷ 0 ∷ 2 ∷ []) 40 ≡ Ok tt
  -- the opening figure stays, and so does its soundness; the true figure is met and passed by one, over 20 and over 28
  pub through_met : along (0 ∷ 2 ∷ 0 ∷ []) 40 ≡ Ok tt
  pub through-above : along (0 ∷ 2 ∷ 0 ∷ []) 41 ≡ no 7 (P.Cell 2)
  pub slant-met : slant 28 ≡ Ok tt
  pub slant-above : slant 29 ≡ no 7 (P.Cell 3)
  -- a trial's counts: each of the two moves through costs 20, and each decision learns 10
  pub ridden : (trial (row_job 3 0 1 1000) (0 ∷ 2 ∷ 0 ∷ []) 2 (0 ∷ 10 ∷ 20 ∷ []) fresh).answer ≡ Ok (record { decisions = 2; learned = 20; kept = 40; travel = 40 })
  -- the kept cost is of the legs at the job's own depth: with windows of eight rings the second leg would cost 10 less
  pub kept-depth : (trial bay bay_floor 0 (opening_of bay bay_floor) (replicate 15 77)).answer ≡ Ok (record { decisions = 2; learned = 0; kept = 80; travel = 80 })
  -- `aisle` reads the letter
  pub printed : aisle (bytes "2 0 1\ntype octile\nheight 1\nwidth 3\nmap\n.S.\n") ≡ bytes "66 2 20 40 40\n66 2 10 40 40\n66 2 0 40 40\nsettled 3\n"

pub pins_slow : PinsSlow
unfolding compute
pins_slow = record {
  ordinary = refl;
  begins-slow = refl;
  ends-slow = refl;
  both_slow = refl;
  slow_corners = refl;
  blocked_corner = refl;
  round = refl;
  round-moves = refl;
  round-way = refl;
  through = refl;
  along_two = refl;
  ends_open = refl;
  ends-met = refl;
  through_met = refl;
  through-above = refl;
  slant-met = refl;
  slant-above = refl;
  ridden = refl;
  kept-depth = refl;
  printed = refl;
}
