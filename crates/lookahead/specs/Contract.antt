-- What the lookahead takes and what it promises, over the model's own functions.
use Rattle.std.specs.Prelude.{ℕ, ◌+◌, ◌-◌, ◌*◌, ◌≤◌, ◌<◌, ◌≡◌, true, false, List, ◌++◌, length, get_or, drop, Option, Some, None}
use Rattle.learning.specs.Ground.{leg_of}
use Rattle.answers.specs.declared.Job.{Job}
use Rattle.model.specs.Basics.{member}
use Rattle.model.specs.Floor.{Sized, size, free}
use Rattle.model.specs.Checks.{deepest, finest, ceiling, floor_of, goals, Benched}
use Rattle.model.specs.Lookahead.{seen, ring, w, empty_ring, new_figure, target, fine_in, route, moves_along, most_moves, highest_new}
use Rattle.lookahead.specs.declared.Extent.{Extent}
use Rattle.lookahead.specs.declared.Ahead.{Ahead}

-- how far a lookahead's base is from the next one's: past its rings; and the last base that leaves the 32 bits of a mark room for one
abbrev pub stride : ℕ
stride = 2 * deepest

abbrev pub last_base : ℕ
last_base = 4294967295 - stride

-- Marks as a lookahead takes them: all below the base, which leaves room for one; and as it leaves them.
pub record Marks (base : ℕ) (mark : List ℕ) : Type 0 where
  pub size : length mark ≡ 4096
  pub room : base ≤ last_base
  pub below : (x : ℕ) → get_or mark x 0 < base

pub record Spent (base : ℕ) (mark : List ℕ) : Type 0 where
  pub size : length mark ≡ 4096
  pub room : base ≤ last_base
  pub below : (x : ℕ) → get_or mark x 0 < base + stride

-- The lent lists before a lookahead, and after. The list of cells has two places for each: the cell, and 4096 further on a cost.
pub record Fresh (base : ℕ) (mark cost list : List ℕ) : Type 0 where
  pub marks : Marks base mark
  pub costs : length cost ≡ 4096
  pub cells : length list ≡ 8192

pub record Used (base : ℕ) (mark cost list : List ℕ) : Type 0 where
  pub marks : Spent base mark
  pub costs : length cost ≡ 4096
  pub cells : length list ≡ 8192

-- What a lookahead from s is asked of: a floor, a free cell of it, goals on it of which that cell is none, and a depth.
pub record Asked (j : Job) (bytes : List ℕ) (s : ℕ) : Type 0 where
  pub sized : Sized (floor_of j bytes)
  pub start : free (floor_of j bytes) s ≡ true
  pub benches : Benched (size (floor_of j bytes)) (goals j)
  pub apart : member s (goals j) ≡ false
  pub shallow : 1 ≤ j.depth
  pub deep : j.depth ≤ deepest

-- x is in the window around s.
abbrev pub Near : Job → List ℕ → (s x : ℕ) → Type 0
Near j bytes s x = ring j bytes (seen j bytes s) x ≤ (seen j bytes s).last

-- The fine cost of x: 32 × w and the fewest moves at that cost.
abbrev pub fine_cost : Job → List ℕ → (s x : ℕ) → ℕ
fine_cost j bytes s x = leg_of (fine_in j bytes) j.depth s x

-- Points 1 and 2 in the lists: a window cell's mark is the base and its ring, and its cost is fine. Any other cell's mark is below the base.
pub record Seen (j : Job) (bytes : List ℕ) (s base : ℕ) (mark cost : List ℕ) : Type 0 where
  pub spent : Spent base mark
  pub size : length cost ≡ 4096
  pub marks : (x : ℕ) → Near j bytes s x → get_or mark x 0 ≡ base + ring j bytes (seen j bytes s) x
  pub costs : (x : ℕ) → Near j bytes s x → get_or cost x 0 ≡ fine_cost j bytes s x
  pub none : (x : ℕ) → (seen j bytes s).last < ring j bytes (seen j bytes s) x → get_or mark x 0 < base

-- The whole window: no ring up to the last is empty, and the list's first n places hold just the window's cells.
pub record Window (j : Job) (bytes : List ℕ) (s base : ℕ) (mark cost list : List ℕ) (n last : ℕ) : Type 0 where
  pub view : Seen j bytes s base mark cost
  pub room : length list ≡ 8192
  pub last_is : last ≡ (seen j bytes s).last
  pub some : 1 ≤ last
  pub depth : last ≤ j.depth
  pub full : empty_ring j bytes (seen j bytes s) last ≡ false
  pub fits : n ≤ 4096
  pub cells : (i : ℕ) → i < n → Near j bytes s (get_or list i 0)
  pub listed : (x : ℕ) → Near j bytes s x → (i : ℕ) × (i < n) × (get_or list i 0 ≡ x)

-- The window, or number 9's case.
abbrev pub Looked : Job → List ℕ → (s base : ℕ) → (mark cost list : List ℕ) → Option Extent → Type 0
Looked j bytes s base mark cost list (Some e) = Window j bytes s base mark cost list e.n e.last
Looked j bytes s base mark cost list None = Used base mark cost list × (empty_ring j bytes (seen j bytes s) (seen j bytes s).last ≡ true)

-- The figures that a new one is worked out from.
pub record Figures (j : Job) (bytes table : List ℕ) : Type 0 where
  pub weight : j.p ≤ finest
  pub size : length table ≡ size (floor_of j bytes)
  pub small : (x : ℕ) → get_or table x 0 ≤ ceiling

-- Points 3 and 4: the new figure, the target, and w of the target.
pub record Aimed (j : Job) (bytes : List ℕ) (s : ℕ) (table : List ℕ) (a : Ahead) : Type 0 where
  pub figure : a.figure ≡ new_figure j bytes (seen j bytes s) table
  pub target : a.target ≡ target j bytes (seen j bytes s) table
  pub leg : a.leg ≡ w j bytes (seen j bytes s) a.target
  pub on_last : ring j bytes (seen j bytes s) a.target ≡ (seen j bytes s).last
  pub high : a.figure ≤ highest_new

-- Point 5: the moves of the route from s to x, written at the front of the list.
abbrev pub moves_to : Job → List ℕ → (s x : ℕ) → List ℕ
moves_to j bytes s x = moves_along (floor_of j bytes) s (route j bytes s x)

pub record Traced (j : Job) (bytes : List ℕ) (s x : ℕ) (out out' : List ℕ) (n : ℕ) : Type 0 where
  pub count : n ≡ length (moves_to j bytes s x)
  pub written : out' ≡ moves_to j bytes s x ++ drop n out
  pub few : n ≤ most_moves
  pub moves : (i : ℕ) → get_or (moves_to j bytes s x) i 0 < 8
