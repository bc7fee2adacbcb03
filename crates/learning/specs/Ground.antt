-- A ground: cells 0 to `cells` - 1, the price of each move, 0 where there is none, and the goals.
-- All that the learner knows of a floor is its ground. What is proved is proved once over the price of a move.
use Rattle.std.specs.Prelude.{ℕ, zero, suc, ◌+◌, ◌*◌, ◌≤◌, ◌<◌, min, ◌≡◌, Bool, true, false, ◌&&◌, List, [], ◌∷◌, T, eqb, leb, get_or}
use Rattle.std.proofs.Common.{◌∙◌, ap, arith}
use Rattle.learning.specs.Walk.{Network}
use Rattle.learning.specs.Trial.{Job}

pub record Ground : Type 0 where
  pub cells : ℕ
  pub price : ℕ → ℕ → ℕ
  pub goal : ℕ → Bool
  pub least : ℕ
  pub dearest : ℕ
  pub positive : 1 ≤ least
  pub low : (a b : ℕ) → 1 ≤ price a b → least ≤ price a b
  pub high : (a b : ℕ) → price a b ≤ dearest
  pub same : (a b : ℕ) → price a b ≡ price b a
  pub inside : (a b : ℕ) → 1 ≤ price a b → a < cells
  pub goals-inside : (x : ℕ) → T (goal x) → x < cells

abbrev pub Goal : Ground → ℕ → Type 0
Goal G x = T (G.goal x)

abbrev pub net_of : Ground → Network
net_of G = record {
  least = G.least;
  Edge = λ a b c. (1 ≤ c) × (G.price a b ≡ c);
  positive = G.positive;
  costs = λ {a} {b} {c} e. omega (arith, e.1, G.low a b (omega (arith, e.0, e.1)));
  back = λ {a} {b} {c} e. (e.0, G.same b a ∙ e.1);
}

-- The same ground where every move costs 1: a walk's cost is its number of moves.
abbrev pub unit_of : Ground → Ground
unit_of G = record {
  cells = G.cells;
  price = λ a b. min 1 (G.price a b);
  goal = G.goal;
  least = 1;
  dearest = 1;
  positive = omega arith;
  low = λ a b h. h;
  high = λ a b. omega arith;
  same = λ a b. ap (min 1) (G.same a b);
  inside = λ a b h. G.inside a b (omega arith);
  goals-inside = G.goals-inside;
}

abbrev pub pick : Bool → ℕ → ℕ → ℕ
pick true x y = x
pick false x y = y

-- The least of t and f 0 to f (n - 1), and the list of f 0 to f (n - 1).
abbrev pub least_over : ℕ → ℕ → (ℕ → ℕ) → ℕ
least_over t zero f = t
least_over t (suc n) f = min (least_over t n f) (f n)

abbrev pub list_of : ℕ → (ℕ → ℕ) → List ℕ
list_of zero f = []
list_of (suc n) f = f 0 ∷ list_of n (λ k. f (suc k))

-- More than any least cost.
abbrev pub far : Ground → ℕ
far G = suc (G.dearest * G.cells)

abbrev pub through : ℕ → ℕ → ℕ → ℕ
through t zero v = t
through t (suc c) v = suc c + v

-- The least costs to a cell of `start` by walks inside `field`: after k rounds, of walks of at most k moves.
-- `relax` is the least of a cell's own cost and the costs through each neighbour.
abbrev pub relax : Ground → (ℕ → Bool) → List ℕ → ℕ → ℕ
relax G field row x = pick (field x) (min (get_or row x (far G)) (least_over (far G) G.cells (λ b. through (far G) (G.price x b) (get_or row b (far G))))) (far G)

-- Whether two rows are the same.
abbrev pub same_row : List ℕ → List ℕ → Bool
same_row [] [] = true
same_row [] (y ∷ ys) = false
same_row (x ∷ xs) [] = false
same_row (x ∷ xs) (y ∷ ys) = eqb x y && same_row xs ys

module _ (G : Ground) (field start : ℕ → Bool) where
  abbrev pub rounds : ℕ → List ℕ
  rounds zero = list_of G.cells (λ x. pick (field x && start x) 0 (far G))
  rounds (suc k) = let row = rounds k in list_of G.cells (relax G field row)

  -- At most k rounds more, and none after one that changes nothing.
  unfoldable pub settle : ℕ → List ℕ → List ℕ
  settle zero row = row
  settle (suc k) row = let next = list_of G.cells (relax G field row) in elim (same_row next row) [ true ↦ row | false ↦ settle k next ]

  -- As many rounds as there are cells.
  unfoldable pub spread : List ℕ
  spread = settle G.cells (rounds 0)

abbrev pub everywhere : ℕ → Bool
everywhere x = true

-- A row of costs to the goals: whether the cell x can reach a goal, and its cost, 0 where it cannot.
abbrev pub reach_in : Ground → List ℕ → ℕ → Bool
reach_in G row x = leb (get_or row x (far G)) (G.dearest * G.cells)

abbrev pub dist_in : Ground → List ℕ → ℕ → ℕ
dist_in G row x = let v = get_or row x (far G) in pick (leb v (G.dearest * G.cells)) v 0

-- The least cost of a walk from each cell to a goal.
unfoldable pub dists_of : Ground → List ℕ
dists_of G = spread G everywhere G.goal

-- Whether a goal can be reached.
unfoldable pub reach_of : Ground → ℕ → Bool
reach_of G x = reach_in G (dists_of G) x

-- The true distance, and 0 where no goal can be reached.
unfoldable pub dist_of : Ground → ℕ → ℕ
dist_of G x = dist_in G (dists_of G) x

-- A row of fewest moves: the ring of x, and d + 1 where no walk leads to x.
abbrev pub ring_in : Ground → ℕ → List ℕ → ℕ → ℕ
ring_in G d row x = let v = get_or row x (far (unit_of G)) in pick (leb v G.cells) v (suc d)

abbrev pub cost_in : Ground → List ℕ → ℕ → ℕ
cost_in G row x = get_or row x (far G)

-- What is seen from a cell: the fewest moves to each cell, the last ring, and the least cost of a walk to each cell inside the window.
pub record View : Type 0 where
  pub rings : List ℕ
  pub last : ℕ
  pub costs : List ℕ

-- The last ring is the ring of the nearest goal, or d where that is smaller; the window is all cells of ring 0 to the last.
unfoldable pub view_of : Ground → ℕ → ℕ → View
view_of G d s =
    let rings = spread (unit_of G) everywhere (λ y. eqb y s) in
    let last = least_over d G.cells (λ z. pick (G.goal z) (ring_in G d rings z) d) in
    record { rings = rings; last = last; costs = spread G (λ y. leb (ring_in G d rings y) last) (λ y. eqb y s) }

-- The fewest moves from s to x, the last ring around s, and the least cost of a walk from s to x inside the window.
unfoldable pub ring_of : Ground → ℕ → ℕ → ℕ → ℕ
ring_of G d s x = ring_in G d (view_of G d s).rings x

unfoldable pub last_of : Ground → ℕ → ℕ → ℕ
last_of G d s = (view_of G d s).last

unfoldable pub leg_of : Ground → ℕ → ℕ → ℕ → ℕ
leg_of G d s x = cost_in G (view_of G d s).costs x

-- The job on a ground.
abbrev pub job_of : (G : Ground) (depth p q quota : ℕ) → Job
job_of G depth p q quota = record {
  net = net_of G;
  Goal = Goal G;
  cells = G.cells;
  p = p;
  q = q;
  quota = quota;
  depth = depth;
  last = last_of G depth;
  ring = ring_of G depth;
  leg = leg_of G depth;
  dist = dist_of G;
}
