-- The settings and the numbers that several calls answer: 1, 2, 3, 4, 27 and 5.
use Rattle.std.specs.Prelude.{ℕ, suc, ◌*◌, ◌≤◌, ◌<◌, ◌&&◌, List, leb, ltb, eqb, length, get_or}
use Rattle.learning.specs.Ground.{Ground}
use Rattle.answers.specs.declared.Goals.{Goals}
use Rattle.answers.specs.declared.Job.{Job}
use Rattle.answers.specs.Outcomes.{Verdict}
use Rattle.model.specs.Basics.{between, every, rising, unless, naming}
use Rattle.model.specs.Floor.{Floor, size, dearest_price, free, goals_of}
use Rattle.model.specs.Grounds.{ground_of}

-- the greatest depth, and the greatest q
abbrev pub deepest : ℕ
deepest = 8

abbrev pub finest : ℕ
finest = 16

-- the greatest quota
abbrev pub largest_quota : ℕ
largest_quota = 1000000

-- the greatest true distance: each of the 4,095 other cells is entered once, at the dearest price
abbrev pub farthest : ℕ
farthest = dearest_price * 4095

-- "The ceiling becomes 1,834,560": 28 × 4,095 × 16
abbrev pub ceiling : ℕ
ceiling = farthest * finest

-- the floor of a job and of the bytes lent beside it; its goals; and their ground
abbrev pub floor_of : Job → List ℕ → Floor
floor_of j bytes = record { width = j.width; height = j.height; bytes = bytes }

abbrev pub goals : Job → List ℕ
goals j = goals_of j.goals

abbrev pub ground_in : Job → List ℕ → Ground
ground_in j bytes = ground_of (floor_of j bytes) (goals j)

-- 1: width or height outside 1 to 64; floor or table length not width × height
unfoldable pub sizes : Floor → ℕ → Verdict
sizes f figures = unless (between 1 f.width 64 && between 1 f.height 64 && eqb (length f.bytes) (size f) && eqb figures (size f)) 1

-- 2: path list shorter than width × height
unfoldable pub path_room : Floor → ℕ → Verdict
path_room f places = unless (leb (size f) places) 2

-- 3: depth d 1 to 8; weight p/q with 1 ≤ p ≤ q ≤ 16; quota T 0 to 1,000,000
unfoldable pub settings : Job → Verdict
settings j = unless (between 1 j.depth deepest && leb 1 j.p && leb j.p j.q && leb j.q finest && leb j.quota largest_quota) 3

-- 3 where q is all that is taken
unfoldable pub scale : ℕ → Verdict
scale q = unless (between 1 q finest) 3

-- 4: start, current cell or a goal off the floor or blocked; the table calls take the goals alone
unfoldable pub benches : Floor → List ℕ → Verdict
benches f gs = unless (every (free f) gs) 4

unfoldable pub places : Floor → ℕ → List ℕ → Verdict
places f x gs = unless (free f x && every (free f) gs) 4

-- "27 goals equal, out of order, none or more than four, after 4"
abbrev pub most_goals : ℕ
most_goals = 4

unfoldable pub goals_hold : Goals → Verdict
goals_hold g = unless (between 1 g.count most_goals && rising (goals_of g)) 27

-- what 4 and 27 leave of a job's goals on a floor of n cells: there is one, each is a cell, and they rise
pub record Benched (n : ℕ) (gs : List ℕ) : Type 0 where
  pub one : 1 ≤ length gs
  pub on : (i : ℕ) → i < length gs → get_or gs i 0 < n
  pub rise : (i : ℕ) → suc i < length gs → get_or gs i 0 < get_or gs (suc i) 0

-- 5: a table figure above the ceiling; names the lowest such cell
unfoldable pub figures : Floor → List ℕ → Verdict
figures f table = naming (size f) (λ x. ltb ceiling (get_or table x 0)) 5
