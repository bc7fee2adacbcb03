-- The route to a target, found backward: each time the lowest cell of the window from which one move gives exactly the cost of the cell reached.
use Rattle.std.specs.Prelude.{ℕ, zero, suc, ◌+◌, Bool, true, false, ◌&&◌, List, [], ◌∷◌, ◌++◌, eqb, leb}
use Rattle.learning.specs.Walk.{Network}
use Rattle.learning.specs.Ground.{Ground, View, view_of, ring_in, cost_in}
use Rattle.learning.specs.Look.{lowest}

-- The cells after a, in order, of a walk inside S that ends at z: its cost is last.
pub data Chain (N : Network) (S : ℕ → Type 0) : ℕ → List ℕ → ℕ → ℕ → Type 0 where
  ended : {a : ℕ} → S a → Chain N S a [] a 0
  step : {a b z c k : ℕ} {xs : List ℕ} → S a → N.Edge a b c → Chain N S b xs z k → Chain N S a (b ∷ xs) z (c + k)

module _ (G : Ground) (d s : ℕ) (v : View) where
  -- The cell before x.
  unfoldable pub prior_in : ℕ → ℕ
  prior_in x =
      lowest G.cells (λ b. leb (ring_in G d v.rings b) v.last && (leb 1 (G.price b x) && eqb (cost_in G v.costs b + G.price b x) (cost_in G v.costs x)))

  -- The cells after s up to x. The test says whether x is s itself.
  unfoldable pub route_from : ℕ → Bool → ℕ → List ℕ
  route_from zero b x = []
  route_from (suc fuel) true x = []
  route_from (suc fuel) false x = let y = prior_in x in route_from fuel (eqb y s) y ++ x ∷ []

  unfoldable pub route_in : ℕ → List ℕ
  route_in x = route_from (suc (cost_in G v.costs x)) (eqb x s) x

abbrev pub route_of : Ground → (d s : ℕ) → ℕ → List ℕ
route_of G d s x = route_in G d s (view_of G d s) x
