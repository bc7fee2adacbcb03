-- The search for true distances, in rising order: a cell gets its distance once, when it is first reached.
-- What it keeps is said of functions: d the distance of a cell, q the cell at a place of the queue, p the place of a cost. Chain says how one list holds them.
use Rattle.std.specs.Prelude.{ℕ, ◌+◌, ◌-◌, ◌*◌, ◌≤◌, ◌<◌, ◌≡◌, List, T, ltb}
use Rattle.learning.specs.Path.{total}
use Rattle.learning.specs.Walk.{Arrives}
use Rattle.learning.specs.Ground.{Goal, net_of, pick}
use Rattle.model.specs.Floor.{Floor, size, dearest_price, price}
use Rattle.model.specs.Grounds.{ground_of, is_goal}
use Rattle.floor.specs.Moves.{to, kinds, cost, step_of}

-- what stands for a distance before a cell has one: more than any distance
abbrev pub none : ℕ
none = 524287

-- how many of the cells have no distance
abbrev pub unset : Floor → (ℕ → ℕ) → ℕ
unset f d = total (size f) (λ x. pick (ltb (d x) none) 0 1)

-- the queue: its first n places hold the cells that have a distance, in rising order and none above v
pub record Queue (f : Floor) (d q : ℕ → ℕ) (n v : ℕ) : Type 0 where
  -- as many cells have no distance as are not in the queue: so each is in it once, and there is room for the others
  pub left : n + unset f d ≡ size f
  -- what stands in it is a cell
  pub on : (i : ℕ) → i < n → q i < size f
  -- its distance is at most the dearest move for each place before it, so less than `none`
  pub near : (i : ℕ) → i < n → d (q i) ≤ dearest_price * i
  -- the nearer first
  pub sorted : (j : ℕ) → j < n → (i : ℕ) → i ≤ j → d (q i) ≤ d (q j)
  -- none above v, which is the last distance given
  pub high : (i : ℕ) → i < n → d (q i) ≤ v
  -- a cell that has a distance stands in it
  pub found : (x : ℕ) → x < size f → d x < none → (i : ℕ) × (i < n) × (q i ≡ x)
  -- no cell has more than `none`
  pub most : (x : ℕ) → x < size f → d x ≤ none

-- each distance is that of a walk
pub record Going (f : Floor) (goals : List ℕ) (d : ℕ → ℕ) : Type 0 where
  -- a goal has 0
  pub zeros : (z : ℕ) → T (is_goal f goals z) → d z ≤ 0
  -- a distance is the cost of a walk to a goal
  pub met : (x : ℕ) → x < size f → d x < none → Arrives (net_of (ground_of f goals)) (Goal (ground_of f goals)) x (d x)

-- the places: up to p k the moves of the k-th cost have been followed
pub record Places (f : Floor) (d q : ℕ → ℕ) (n v : ℕ) (p : ℕ → ℕ) : Type 0 where
  -- none is beyond the queue's end
  pub upto : (k : ℕ) → k < kinds f.bytes → p k ≤ n
  -- where a move was followed, it leads to no more than its cost adds
  pub done : (k : ℕ) → k < kinds f.bytes → (i : ℕ) → i < p k → (b : ℕ) → price f (q i) b ≡ cost k → d b ≤ d (q i) + cost k
  -- what the next moves of a cost reach is no nearer than v
  pub ahead : (k : ℕ) → k < kinds f.bytes → p k < n → v ≤ d (q (p k)) + cost k

-- what the search keeps
pub record Searching (f : Floor) (goals : List ℕ) (d q : ℕ → ℕ) (n : ℕ) (p : ℕ → ℕ) : Type 0 where
  -- the last distance given
  pub v : ℕ
  -- the queue up to it, walks for its distances, and the places in it
  pub queue : Queue f d q n v
  pub going : Going f goals d
  pub places : Places f d q n v p

-- what the moves of cost c reach from the place i of the queue, and `none` from its end
abbrev pub offer : (d q : ℕ → ℕ) → (n i c : ℕ) → ℕ
offer d q n i c = pick (ltb i n) (d (q i) + c) none

-- the step to take: the k-th cost, whose place is before the queue's end and gives v, the least
pub record Next (f : Floor) (d q : ℕ → ℕ) (n : ℕ) (p : ℕ → ℕ) (k v : ℕ) : Type 0 where
  pub one : k < kinds f.bytes
  pub before : p k < n
  -- v is what its moves reach, and no other cost reaches less
  pub is : v ≡ d (q (p k)) + cost k
  pub low : (j : ℕ) → j < kinds f.bytes → p j < n → v ≤ d (q (p j)) + cost j

-- what following moves of cost c from the cell x adds: new cells at the queue's end, each at distance v, and nothing else
pub record Grown (f : Floor) (x c v : ℕ) (d q : ℕ → ℕ) (n : ℕ) (d' q' : ℕ → ℕ) (n' : ℕ) : Type 0 where
  pub more : n ≤ n'
  -- the queue and the distances that were there stay
  pub same : (i : ℕ) → i < n → q' i ≡ q i
  pub kept : (y : ℕ) → d y < none → d' y ≡ d y
  pub lower : (y : ℕ) → d' y ≤ d y
  -- a new cell has the distance v, and a move of cost c joins it to x
  pub new : (i : ℕ) → i < n' → n ≤ i → (d' (q' i) ≡ v) × (price f x (q' i) ≡ c)

-- the first m moves from x have been followed
pub record Followed (f : Floor) (x c v m : ℕ) (d q : ℕ → ℕ) (n : ℕ) (d' q' : ℕ → ℕ) (n' : ℕ) : Type 0 where
  -- it is a queue still, which has grown by what they reach
  pub queue : Queue f d' q' n' v
  pub grown : Grown f x c v d q n d' q' n'
  -- what a move of cost c leads to has a distance, at most v
  pub closed : (k : ℕ) → k < m → (b : ℕ) → step_of f x k ≡ to b c → d' b ≤ v

-- how far the places can still go, together: each passes each cell once
abbrev pub to_go : Floor → (ℕ → ℕ) → ℕ
to_go f p = total (kinds f.bytes) (λ k. size f - p k)
