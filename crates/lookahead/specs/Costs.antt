-- The fine costs in a window: lowered along its moves until none can be lowered.
use Rattle.std.specs.Prelude.{◌≡◌, List, [], ◌∷◌, ◌⊎◌, Bool, true, false, ℕ, ◌+◌, ◌*◌, ◌≤◌, ◌<◌, length, get_or, set}
use Rattle.learning.specs.Walk.{Least, Leads}
use Rattle.model.specs.Floor.{Floor, Sized, free, dearest_price}
use Rattle.model.specs.Checks.{deepest}
use Rattle.model.specs.Lookahead.{fine}
use Rattle.floor.specs.declared.Spot.{Spot}
use Rattle.floor.specs.Moves.{to, Placed, step_of}
use Rattle.lookahead.specs.Marks.{net, note_at, In}

-- the sum of all costs, which falls with each that is lowered
unfoldable pub total : List ℕ → ℕ
total [] = 0
total (x ∷ xs) = x + total xs

abbrev pub at : List ℕ → ℕ → ℕ
at cost x = get_or cost x 0

-- what a fine cost comes to at most
abbrev pub dearest_fine : ℕ
dearest_fine = fine dearest_price * deepest

-- the window's cells are free cells of a floor, and their costs small
pub record Costs (f : Floor) (base : ℕ) (mark cost : List ℕ) : Type 0 where
  pub sized : Sized f
  pub marks : length mark ≡ 4096
  pub costs : length cost ≡ 4096
  pub free : (x : ℕ) → In base mark x → free f x ≡ true
  pub small : (x : ℕ) → In base mark x → at cost x ≤ dearest_fine

-- each cost is that of a walk to s in the window
abbrev pub Walked : Floor → (s base : ℕ) → (mark cost : List ℕ) → Type 0
Walked f s base mark cost = (x : ℕ) → In base mark x → Leads (net f) (In base mark) x s (at cost x)

-- the move m from c, followed at the cost u, lowers no cost of the window; nor do the first m moves
abbrev pub Under : Floor → ℕ → (mark : List ℕ) → (c m u : ℕ) → (cost : List ℕ) → Type 0
Under f base mark c m u cost = (d v : ℕ) → step_of f c m ≡ to d v → In base mark d → at cost d ≤ u + fine v

abbrev pub Followed : Floor → ℕ → (mark : List ℕ) → (c m u : ℕ) → (cost : List ℕ) → Type 0
Followed f base mark c m u cost = (i : ℕ) → i < m → Under f base mark c i u cost

-- and the cost of c is u itself
abbrev pub Eased : Floor → ℕ → (mark : List ℕ) → (c m u : ℕ) → (cost : List ℕ) → Type 0
Eased f base mark c m u cost = (at cost c ≡ u) × Under f base mark c m u cost

abbrev pub Easing : Floor → ℕ → (mark : List ℕ) → (c m u : ℕ) → (cost : List ℕ) → Type 0
Easing f base mark c m u cost = (at cost c ≡ u) × Followed f base mark c m u cost

-- costs are lowered or stay, and P holds of them; b says whether one was lowered, here or before
pub record Lowered (f : Floor) (base : ℕ) (mark : List ℕ) (P : List ℕ → Type 0) (cost : List ℕ) (b : Bool) (cost' : List ℕ) (b' : Bool) : Type 0 where
  pub costs : Costs f base mark cost'
  pub walked : (s : ℕ) → Walked f s base mark cost → Walked f s base mark cost'
  pub drop : (x : ℕ) → at cost' x ≤ at cost x
  pub down : total cost' ≤ total cost
  pub less : b' ≡ true → (b ≡ true) ⊎ (total cost' < total cost)
  pub same : b' ≡ false → (b ≡ false) × (cost' ≡ cost)
  pub so : P cost'

-- d gets the cost v if that is lower
pub record Lower (d v : ℕ) (b : Bool) (cost cost' : List ℕ) (b' : Bool) : Type 0 where
  pub new : v < at cost d → (cost' ≡ set cost d v) × (b' ≡ true)
  pub old : at cost d ≤ v → (cost' ≡ cost) × (b' ≡ b)

-- a cell of the window, where it stands
pub record Cell (f : Floor) (base c : ℕ) (at : Spot) (mark : List ℕ) : Type 0 where
  pub marked : In base mark c
  pub placed : Placed f c at

-- the list's first n places hold the window's cells
pub record Listing (base : ℕ) (mark list : List ℕ) (n : ℕ) : Type 0 where
  pub room : length list ≡ 8192
  pub fits : n ≤ 4096
  pub early : (i : ℕ) → i < n → In base mark (get_or list i 0)
  pub listed : (x : ℕ) → In base mark x → (i : ℕ) × (i < n) × (get_or list i 0 ≡ x)

-- followed at these costs, no cell's moves lower a cost
abbrev pub Noted : Floor → ℕ → (mark list : List ℕ) → (n : ℕ) → (cost : List ℕ) → Type 0
Noted f base mark list n cost = (i : ℕ) → i < n → Followed f base mark (get_or list i 0) 8 (note_at list i) cost

-- the moves of the list's i-th cell are followed at a cost that is noted; where that lowers nothing, the cell's own is no lower
pub record Again (f : Floor) (base : ℕ) (mark : List ℕ) (i : ℕ) (cost list : List ℕ) (b : Bool) (cost' list' : List ℕ) (b' : Bool) : Type 0 where
  pub note : ℕ
  pub noted : list' ≡ set list (i + 4096) note
  pub lowered : Lowered f base mark (Followed f base mark (get_or list i 0) 8 note) cost b cost' b'
  pub calm : b' ≡ false → note ≤ at cost (get_or list i 0)

-- no cost of the first i cells of the list is above high
abbrev pub Highest : (cost list : List ℕ) → (i high : ℕ) → Type 0
Highest cost list i high = (j : ℕ) → j < i → at cost (get_or list j 0) ≤ high

-- no cost of the window is above high
abbrev pub Topmost : (base : ℕ) → (mark cost : List ℕ) → (high : ℕ) → Type 0
Topmost base mark cost high = (x : ℕ) → In base mark x → at cost x ≤ high

-- so are those of the first i of n cells
pub record Passed (f : Floor) (base : ℕ) (mark : List ℕ) (n i : ℕ) (cost cost' list' : List ℕ) (b' : Bool) : Type 0 where
  pub listing : Listing base mark list' n
  pub lowered : Lowered f base mark (Noted f base mark list' n) cost false cost' b'
  pub calm : b' ≡ false → (j : ℕ) → j < i → note_at list' j ≤ at cost (get_or list' j 0)

-- after the last pass: each cost is the least of a walk in the window
pub record Relaxed (f : Floor) (base : ℕ) (mark : List ℕ) (n : ℕ) (cost cost' list' : List ℕ) : Type 0 where
  pub costs : Costs f base mark cost'
  pub listing : Listing base mark list' n
  pub least : (s : ℕ) → Walked f s base mark cost → at cost s ≡ 0 → (x : ℕ) → In base mark x → Least (Leads (net f) (In base mark) x s) (at cost' x)
