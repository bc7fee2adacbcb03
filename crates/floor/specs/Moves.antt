-- One move as code finds it: the model's `allowed`, `ahead` and `price` as one answer.
use Rattle.std.specs.Prelude.{◌≡◌, Bool, true, false, List, [], ◌∷◌, ℕ, ◌+◌, ◌-◌, ◌%◌, ◌≤◌, ◌<◌, ltb, eqb, length, get_or, Option, Some, None}
use Rattle.model.specs.Basics.{choose, member}
use Rattle.model.specs.Floor.{Floor, column, row, blocked_byte, slow_byte, free_byte, free, straight, diagonal, doubled, price, east, south, ahead, allowed}
use Rattle.floor.specs.declared.Spot.{Spot}
use Rattle.floor.specs.declared.Step.{Step}

-- a floor from its plain parts
abbrev pub flat : (width height : ℕ) → List ℕ → Floor
flat width height bytes = record { width = width; height = height; bytes = bytes }

-- the move m from x: the cell that it leads to and its cost, or nothing that may be moved into
abbrev pub to : ℕ → ℕ → Option Step
to cell cost = Some (record { cell = cell; cost = cost })

unfoldable pub step_of : Floor → ℕ → ℕ → Option Step
step_of f x m = choose (allowed f x m) (to (ahead f x m) (price f x (ahead f x m))) None

-- what a move can cost, as one short list: straight and diagonal, and both where it is slow; how many costs that are, and the k-th of them
abbrev pub costs : List ℕ
costs = straight ∷ diagonal ∷ doubled true straight ∷ doubled true diagonal ∷ []

abbrev pub all_kinds : ℕ
all_kinds = length costs

abbrev pub cost : ℕ → ℕ
cost k = get_or costs k 0

-- how many of them the moves of a floor can have: the first two where no byte is slow
unfoldable pub kinds : List ℕ → ℕ
kinds bytes = choose (member slow_byte bytes) all_kinds 2

-- whether the move m can have the k-th cost: straight moves have even numbers, and so have their costs
abbrev pub can_cost : ℕ → ℕ → Bool
can_cost m k = eqb (m % 2) (k % 2)

-- the byte of the straight cell on each side of x, blocked past the floor's edge
abbrev pub north_byte : Floor → ℕ → ℕ
north_byte f x = choose (ltb 0 (row f x)) (get_or f.bytes (x - f.width) 0) blocked_byte

abbrev pub west_byte : Floor → ℕ → ℕ
west_byte f x = choose (ltb 0 (column f x)) (get_or f.bytes (x - 1) 0) blocked_byte

abbrev pub east_byte : Floor → ℕ → ℕ
east_byte f x = choose (ltb (column f x + 1) f.width) (get_or f.bytes (x + 1) 0) blocked_byte

abbrev pub south_byte : Floor → ℕ → ℕ
south_byte f x = choose (ltb (row f x + 1) f.height) (get_or f.bytes (x + f.width) 0) blocked_byte

-- a free cell and the ways out of it
pub record Placed (f : Floor) (x : ℕ) (at : Spot) : Type 0 where
  pub free : free f x ≡ true
  pub here : at.here ≡ get_or f.bytes x 0
  pub north : at.north ≡ north_byte f x
  pub west : at.west ≡ west_byte f x
  pub east : at.east ≡ east_byte f x
  pub south : at.south ≡ south_byte f x

-- of a move that goes n one way, counted so that 1 is not at all: the side that it goes to is free
pub record Clear (n a b : ℕ) : Type 0 where
  pub low : n ≡ 0 → free_byte a ≡ true
  pub high : n ≡ 2 → free_byte b ≡ true

-- the straight cell in the row of x that the move m needs, on its way or beside it, is free; and that in its column
abbrev pub RowClear : Spot → ℕ → Type 0
RowClear at m = Clear (east m) at.west at.east

abbrev pub ColumnClear : Spot → ℕ → Type 0
ColumnClear at m = Clear (south m) at.north at.south

-- r says that A does not hold
pub record Unless (A : Type 0) (r : Bool) : Type 0 where
  pub holds : r ≡ false → A
  pub fails : r ≡ true → A → ⊥

-- the byte of the cell that the move m leads to, by the ways out: of a straight move one of them, of a diagonal b
abbrev pub ahead_byte : Spot → (m b : ℕ) → ℕ
ahead_byte at m b = get_or (at.north ∷ b ∷ at.east ∷ b ∷ at.south ∷ b ∷ at.west ∷ b ∷ []) m 0

-- what the first i bytes say of a floor's costs: two while none of them is slow, and all of them once one is
pub data Counted (bytes : List ℕ) (i n : ℕ) : Type 0 where
  plain : i ≤ length bytes → n ≡ 2 → ((k : ℕ) → k < i → get_or bytes k 0 ≡ slow_byte → ⊥) → Counted bytes i n
  slow : i ≤ length bytes → n ≡ kinds bytes → Counted bytes i n
