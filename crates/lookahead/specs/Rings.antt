-- What the marking of the rings around s promises.
use Rattle.std.specs.Prelude.{◌≡◌, true, List, ◌⊎◌, ℕ, ◌+◌, ◌-◌, ◌≤◌, ◌<◌, length, get_or, Option, Some, None}
use Rattle.learning.specs.Walk.{Walk, Any, Leads}
use Rattle.model.specs.Basics.{member}
use Rattle.model.specs.Floor.{Floor}
use Rattle.floor.specs.Moves.{to, step_of}
use Rattle.lookahead.specs.declared.Extent.{Extent}
use Rattle.lookahead.specs.Marks.{net, State, state, mark_of, cost_at, cell_of, In, Room, Spread}

-- the cells of marks below k have been left: where they lead is marked, at most one ring further out
abbrev pub Done : Floor → (base k : ℕ) → State → Type 0
Done f base k S =
    (x : ℕ) → In base S.mark x → mark_of S x < k → (m d v : ℕ) → m < 8 → step_of f x m ≡ to d v → In base S.mark d × (mark_of S d ≤ mark_of S x + 1)

-- the rings up to that of mark k are marked, and its cells stand in the list from `from` on
pub record Level (f : Floor) (s base k from : ℕ) (S : State) : Type 0 where
  pub room : Room f base S
  pub spread : Spread f s base k from S
  pub done : Done f base k S
  pub start : mark_of S s ≡ base

-- no ring up to that of mark k is empty
abbrev pub Full : (base k : ℕ) → State → Type 0
Full base k S = (g : ℕ) → base ≤ g → g ≤ k → (x : ℕ) × (mark_of S x ≡ g)

-- the marks are the rings 0 to r; each marked cell stands in the list, a walk of its ring's moves leads from it to s, and its cost is that of
-- a walk in the window
pub record Marked (f : Floor) (s base r : ℕ) (S : State) : Type 0 where
  pub room : Room f base S
  pub top : (x : ℕ) → mark_of S x ≤ base + r
  pub walks : (x : ℕ) → In base S.mark x → (c : ℕ) × Walk (net f) (In base S.mark) x s c (mark_of S x - base)
  pub costs : (x : ℕ) → In base S.mark x → Leads (net f) (In base S.mark) x s (cost_at S x)
  pub fewest : (x c n : ℕ) → Walk (net f) Any s x c n → n ≤ r → In base S.mark x × (mark_of S x ≤ base + n)
  pub listed : (x : ℕ) → In base S.mark x → (i : ℕ) × (i < S.n) × (cell_of S i ≡ x)
  pub early : (i : ℕ) → i < S.n → In base S.mark (cell_of S i)

-- the last ring is the depth's or the nearest goal's, if that is smaller; no ring up to it is empty
pub record Framed (f : Floor) (s : ℕ) (gs : List ℕ) (depth base last : ℕ) (S : State) : Type 0 where
  pub marked : Marked f s base last S
  pub within : last ≤ depth
  pub some : 1 ≤ last
  pub ends : (last ≡ depth) ⊎ ((g : ℕ) × (member g gs ≡ true) × (mark_of S g ≡ base + last))
  pub nearer : (g : ℕ) → member g gs ≡ true → In base S.mark g → mark_of S g ≡ base + last
  pub full : Full base (base + last) S

-- each goal has a place among n marks; and none has a mark yet
abbrev pub EachBelow : (n : ℕ) (gs : List ℕ) → Type 0
EachBelow n gs = (i : ℕ) → i < length gs → get_or gs i 0 < n

abbrev pub Unmet : (gs : List ℕ) (base : ℕ) → State → Type 0
Unmet gs base S = (g : ℕ) → member g gs ≡ true → mark_of S g < base

-- ring r + 1 is within the depth and empty, and no goal is in one before it
pub record Blocked (f : Floor) (s : ℕ) (gs : List ℕ) (depth base r : ℕ) (S : State) : Type 0 where
  pub marked : Marked f s base (r + 1) S
  pub short : r < depth
  pub empty : (x : ℕ) → mark_of S x ≤ base + r
  pub far : Unmet gs base S

abbrev pub Rings : Floor → (s : ℕ) → (gs : List ℕ) → (depth base : ℕ) → (mark cost list : List ℕ) → Option Extent → Type 0
Rings f s gs depth base mark cost list (Some e) = Framed f s gs depth base e.last (state mark cost list e.n)
Rings f s gs depth base mark cost list None = (r n : ℕ) × Blocked f s gs depth base r (state mark cost list n)
