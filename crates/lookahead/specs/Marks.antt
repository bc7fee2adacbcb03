-- What holds while the rings around s are marked. A cell's mark is the base and its ring, or below the base; beside it stands the fine cost of
-- a walk to it; and the marked cells stand in a list, ring by ring, each with the cost at which its moves were followed.
use Rattle.std.specs.Prelude.{◌≡◌, List, [], ◌∷◌, true, cond, ◌⊎◌, ℕ, ◌+◌, ◌-◌, ◌*◌, ◌≤◌, ◌<◌, ltb, length, get_or, set, Option, Some, None}
use Rattle.learning.specs.Walk.{Network, Walk, Leads}
use Rattle.learning.specs.Ground.{net_of}
use Rattle.model.specs.Floor.{Floor, Sized, free, dearest_price}
use Rattle.model.specs.Checks.{deepest}
use Rattle.model.specs.Lookahead.{fine, fine_of}
use Rattle.floor.specs.declared.Spot.{Spot}
use Rattle.floor.specs.declared.Step.{Step}
use Rattle.floor.specs.Moves.{to, Placed, step_of}
use Rattle.lookahead.specs.Contract.{last_base}

-- the moves of a floor at their fine prices
abbrev pub net : Floor → Network
net f = net_of (fine_of f [])

-- the move m from c leads to the cell of s, whose cost is the fine price; or nothing may be moved into
pub record Finely (f : Floor) (c m : ℕ) (s : Step) : Type 0 where
  pub price : ℕ
  pub step : step_of f c m ≡ to s.cell price
  pub is : s.cost ≡ fine price
  pub few : s.cell < 4096
  pub most : s.cost ≤ fine dearest_price

abbrev pub FineStep : Floor → (c m : ℕ) → Option Step → Type 0
FineStep f c m (Some s) = Finely f c m s
FineStep f c m None = step_of f c m ≡ None

-- how many cells have no mark
unfoldable pub blanks : ℕ → List ℕ → ℕ
blanks base [] = 0
blanks base (x ∷ xs) = cond (ltb x base) 1 0 + blanks base xs

pub record State : Type 0 where
  pub mark : List ℕ
  pub cost : List ℕ
  pub list : List ℕ
  pub n : ℕ

abbrev pub state : (mark cost list : List ℕ) (n : ℕ) → State
state mark cost list n = record { mark = mark; cost = cost; list = list; n = n }

abbrev pub mark_of : State → ℕ → ℕ
mark_of S x = get_or S.mark x 0

abbrev pub cost_at : State → ℕ → ℕ
cost_at S x = get_or S.cost x 0

abbrev pub cell_of : State → ℕ → ℕ
cell_of S i = get_or S.list i 0

-- the cost at which the moves of the list's i-th cell were followed, and 65535 before they were
abbrev pub note_at : List ℕ → ℕ → ℕ
note_at list i = get_or list (i + 4096) 0

-- the cells of a window: those with a mark
abbrev pub In : ℕ → List ℕ → ℕ → Type 0
In base mark x = base ≤ get_or mark x 0

-- three lists, one of them with two places for a cell, and room for each cell that has no mark
pub record Sizes (base : ℕ) (S : State) : Type 0 where
  pub marks : length S.mark ≡ 4096
  pub costs : length S.cost ≡ 4096
  pub cells : length S.list ≡ 8192
  pub count : S.n + blanks base S.mark ≡ 4096

-- and the marked cells are free cells of a floor, at no more than the dearest fine price for each move of their ring; where a cell's moves were followed, they lead to marked cells,
-- which cost no more than the move adds
pub record Room (f : Floor) (base : ℕ) (S : State) : Type 0 where
  pub sized : Sized f
  pub sizes : Sizes base S
  pub free : (x : ℕ) → In base S.mark x → free f x ≡ true
  pub cheap : (x : ℕ) → In base S.mark x → cost_at S x ≤ fine dearest_price * (mark_of S x - base)
  pub notes : (i : ℕ) → i < S.n → (m d v : ℕ) → m < 8 → step_of f (cell_of S i) m ≡ to d v
      → (note_at S.list i ≡ 65535) ⊎ (In base S.mark d × (cost_at S d ≤ note_at S.list i + fine v))

-- the cells of mark g are being found, and stand in the list from `to` on; a walk of its ring's moves leads
-- from each marked cell to s, and its cost is that of a walk
pub record Spread (f : Floor) (s base g to : ℕ) (S : State) : Type 0 where
  pub top : (x : ℕ) → mark_of S x ≤ g
  pub walks : (x : ℕ) → In base S.mark x → (c : ℕ) × Walk (net f) (In base S.mark) x s c (mark_of S x - base)
  pub costs : (x : ℕ) → In base S.mark x → Leads (net f) (In base S.mark) x s (cost_at S x)
  pub listed : (x : ℕ) → In base S.mark x → (i : ℕ) × (i < S.n) × (cell_of S i ≡ x) × (mark_of S x ≡ g → to ≤ i)
  pub early : (i : ℕ) → i < S.n → In base S.mark (cell_of S i)
  pub late : (i : ℕ) → i < S.n → to ≤ i → mark_of S (cell_of S i) ≡ g
  pub upto : to ≤ S.n

-- what has a mark keeps it, with its place in the list, and costs no more
pub record Kept (base : ℕ) (S S' : State) : Type 0 where
  pub marks : (x : ℕ) → In base S.mark x → mark_of S' x ≡ mark_of S x
  pub costs : (x : ℕ) → In base S.mark x → cost_at S' x ≤ cost_at S x
  pub cells : (i : ℕ) → i < S.n → cell_of S' i ≡ cell_of S i
  pub grows : S.n ≤ S'.n

-- every cell that one move leads to from x has a mark, for the moves below m
abbrev pub Out : Floor → ℕ → State → (x m : ℕ) → Type 0
Out f base S x m = (i : ℕ) → i < m → (d v : ℕ) → step_of f x i ≡ to d v → In base S.mark d

-- the list with a new cell after its first n, whose moves were not followed yet
abbrev pub entered : (list : List ℕ) (n d : ℕ) → List ℕ
entered list n d = set (set list n d) (n + 4096) 65535

-- d gets the mark k and the cost v if it has no mark, and else the cost v if that is lower
pub record Reached (base d k v : ℕ) (S S' : State) : Type 0 where
  pub new : mark_of S d < base → S' ≡ state (set S.mark d k) (set S.cost d v) (entered S.list S.n d) (S.n + 1)
  pub low : In base S.mark d → v < cost_at S d → S' ≡ state S.mark (set S.cost d v) S.list S.n
  pub old : In base S.mark d → cost_at S d ≤ v → S' ≡ S

-- from one state to a later one, while the cells of mark k are left: whatever s and `to` are
pub record Grew (f : Floor) (base k : ℕ) (S S' : State) : Type 0 where
  pub room : Room f base S'
  pub kept : Kept base S S'
  pub spread : (s to : ℕ) → Spread f s base (k + 1) to S → Spread f s base (k + 1) to S'

-- k is the mark of a ring before the deepest
pub record Ring (base k : ℕ) : Type 0 where
  pub first : base ≤ k
  pub last : k < base + deepest
  pub room : base ≤ last_base

-- the cell c of mark k and cost w, where it stands
pub record Leaving (f : Floor) (base c : ℕ) (at : Spot) (k w : ℕ) (S : State) : Type 0 where
  pub placed : Placed f c at
  pub ring : Ring base k
  pub marked : mark_of S c ≡ k
  pub costs : cost_at S c ≡ w

-- the move m from c, of cost w, leads to a marked cell or none, which costs no more than the move adds; c itself costs what it did
pub record Extended (f : Floor) (base k c m w : ℕ) (S S' : State) : Type 0 where
  pub grew : Grew f base k S S'
  pub out : (d v : ℕ) → step_of f c m ≡ to d v → In base S'.mark d × (cost_at S' d ≤ w + fine v)
  pub stays : cost_at S' c ≡ w

-- so does each of the first m moves
pub record Left (f : Floor) (base k c m w : ℕ) (S S' : State) : Type 0 where
  pub grew : Grew f base k S S'
  pub out : (i : ℕ) → i < m → (d v : ℕ) → step_of f c i ≡ to d v → In base S'.mark d × (cost_at S' d ≤ w + fine v)
  pub stays : cost_at S' c ≡ w

-- a free cell of mark k and cost w
pub record Open (f : Floor) (base c k w : ℕ) (S : State) : Type 0 where
  pub free : free f c ≡ true
  pub ring : Ring base k
  pub marked : mark_of S c ≡ k
  pub costs : cost_at S c ≡ w

-- the places from `from` to `to` of the list, its end, hold cells of mark k
pub record Segment (base from to k : ℕ) (S : State) : Type 0 where
  pub order : from ≤ to
  pub end : S.n ≡ to
  pub ring : Ring base k
  pub marked : (j : ℕ) → from ≤ j → j < to → mark_of S (cell_of S j) ≡ k

-- each cell at the places from `from` to i is left by every move
pub record Swept (f : Floor) (base k from i : ℕ) (S S' : State) : Type 0 where
  pub grew : Grew f base k S S'
  pub outs : (j : ℕ) → from ≤ j → j < i → Out f base S' (cell_of S j) 8

-- s alone is marked, and stands first in the list
abbrev pub begun : (base : ℕ) (mark cost list : List ℕ) (s : ℕ) → State
begun base mark cost list s = state (set mark s base) (set cost s 0) (entered list 0 s) 1
