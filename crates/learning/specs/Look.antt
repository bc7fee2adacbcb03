-- The lookahead's new figure and target as functions.
use Rattle.std.specs.Prelude.{ℕ, suc, ◌+◌, ◌*◌, Bool, ◌&&◌, List, eqb}
use Rattle.learning.specs.Path.{most}
use Rattle.learning.specs.Trial.{figure}
use Rattle.learning.specs.Ground.{Ground, pick, least_over, View, view_of, ring_in, cost_in}

-- The lowest of the cells 0 to n - 1 that passes a test, and n where none does.
abbrev pub lowest : ℕ → (ℕ → Bool) → ℕ
lowest n test = least_over n n (λ x. pick (test x) x n)

-- Over n cells: p × cost + figure; the least of it on ring k; the greatest of those of rings 1 to m; and the lowest cell of ring m that has ring m's.
module _ (n p : ℕ) (ring cost fig : ℕ → ℕ) where
  abbrev pub value : ℕ → ℕ
  value x = p * cost x + fig x

  unfoldable pub best_on : ℕ → ℕ
  best_on k = let top = suc (most n value) in least_over top n (λ x. pick (eqb (ring x) k) (value x) top)

  unfoldable pub new_over : ℕ → ℕ
  new_over m = most m (λ k. best_on (suc k))

  unfoldable pub target_over : ℕ → ℕ
  target_over m = let b = best_on m in lowest n (λ x. eqb (ring x) m && eqb (value x) b)

-- On a ground, from the cell s, by what is seen from there.
unfoldable pub new_in : (G : Ground) (d p : ℕ) → View → List ℕ → ℕ
new_in G d p v table = new_over G.cells p (ring_in G d v.rings) (cost_in G v.costs) (figure table) v.last

unfoldable pub target_in : (G : Ground) (d p : ℕ) → View → List ℕ → ℕ
target_in G d p v table = target_over G.cells p (ring_in G d v.rings) (cost_in G v.costs) (figure table) v.last

abbrev pub new_of : (G : Ground) (d p s : ℕ) → List ℕ → ℕ
new_of G d p s table = new_in G d p (view_of G d s) table

abbrev pub target_of : (G : Ground) (d p s : ℕ) → List ℕ → ℕ
target_of G d p s table = target_in G d p (view_of G d s) table
