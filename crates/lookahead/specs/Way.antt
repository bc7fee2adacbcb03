-- The route to a cell of the window, found backward.
use Rattle.std.specs.Prelude.{◌≡◌, List, [], ◌∷◌, ◌++◌, ℕ, ◌+◌, ◌*◌, ◌≤◌, ◌<◌, length, get_or, drop, Option, Some, None}
use Rattle.answers.specs.declared.Job.{Job}
use Rattle.model.specs.Floor.{Floor, least_price, price, heading}
use Rattle.model.specs.Lookahead.{fine, most_moves}
use Rattle.floor.specs.Moves.{to, step_of}
use Rattle.lookahead.specs.Contract.{Near, moves_to}
use Rattle.lookahead.specs.Marks.{In}
use Rattle.lookahead.specs.Costs.{at}
use Rattle.lookahead.specs.declared.Link.{Link}

-- one move from the window's cell y, added to its fine cost, gives exactly that of x
pub record Before (f : Floor) (base : ℕ) (mark cost : List ℕ) (x y : ℕ) : Type 0 where
  pub inside : In base mark y
  pub move : 1 ≤ price f y x
  pub exact : at cost y + fine (price f y x) ≡ at cost x

-- b is a cell before x and the move from there
pub record From (f : Floor) (base : ℕ) (mark cost : List ℕ) (x : ℕ) (b : Link) : Type 0 where
  pub before : Before f base mark cost x b.cell
  pub heading : b.m ≡ heading f b.cell x
  pub one : b.m < 8

-- the k-th of the eight moves, by the cells that they lead to, the lowest first
abbrev pub rising_move : ℕ → ℕ
rising_move k = get_or (7 ∷ 0 ∷ 1 ∷ 6 ∷ 2 ∷ 5 ∷ 4 ∷ 3 ∷ []) k 0

-- the cell before x that the move j leads to from x, and the move from there; or it leads to none
abbrev pub Led : Floor → (base : ℕ) → (mark cost : List ℕ) → (x j : ℕ) → Option Link → Type 0
Led f base mark cost x j (Some b) = From f base mark cost x b × ((v : ℕ) × (step_of f x j ≡ to b.cell v))
Led f base mark cost x j None = (y v : ℕ) → step_of f x j ≡ to y v → Before f base mark cost x y → ⊥

-- the first i moves, those to the lowest cells, lead to no cell before x
pub record Unled (f : Floor) (base : ℕ) (mark cost : List ℕ) (x i : ℕ) : Type 0 where
  pub within : i ≤ 8
  pub none : (k : ℕ) → k < i → (y v : ℕ) → step_of f x (rising_move k) ≡ to y v → Before f base mark cost x y → ⊥

-- the lowest cell before x
pub record Prior (f : Floor) (base : ℕ) (mark cost : List ℕ) (x : ℕ) (b : Link) : Type 0 where
  pub from : From f base mark cost x b
  pub lowest : (y : ℕ) → Before f base mark cost x y → b.cell ≤ y

-- while the moves of the route from s to x are found: those from the cell on stand from place k on, and the cell's cost leaves room for the rest
pub record Collecting (j : Job) (bytes : List ℕ) (s : ℕ) (cost : List ℕ) (x k cell : ℕ) (way : List ℕ) : Type 0 where
  pub near : Near j bytes s cell
  pub fits : k ≤ most_moves
  pub size : length way ≡ most_moves
  pub room : at cost cell < fine least_price * k + fine least_price
  pub moves : moves_to j bytes s x ≡ moves_to j bytes s cell ++ drop k way
  pub low : (i : ℕ) → k ≤ i → get_or way i 0 < 8

-- the moves of the route from s to x, at the places from k on of a list for the most moves
pub record Collected (j : Job) (bytes : List ℕ) (s x : ℕ) (way : List ℕ) (k : ℕ) : Type 0 where
  pub size : length way ≡ most_moves
  pub fits : k ≤ most_moves
  pub moves : moves_to j bytes s x ≡ drop k way
  pub low : (i : ℕ) → k ≤ i → get_or way i 0 < 8
