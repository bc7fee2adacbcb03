-- The lookahead from the cell s: what `learning` computes on the floor's ground, point by point.
use Rattle.std.specs.Prelude.{ℕ, zero, suc, ◌+◌, ◌*◌, ◌/◌, Bool, false, ◌||◌, List, [], ◌∷◌, leb, eqb}
use Rattle.learning.specs.Ground.{Ground, View, view_of, ring_in, cost_in}
use Rattle.learning.specs.Look.{lowest, new_in, target_in}
use Rattle.learning.specs.Route.{route_of}
use Rattle.learning.specs.Stretch.{stretch}
use Rattle.answers.specs.declared.Job.{Job}
use Rattle.model.specs.Floor.{Floor, size, least_price, dearest_price, heading}
use Rattle.model.specs.Grounds.{ground_of}
use Rattle.model.specs.Checks.{deepest, finest, ceiling, floor_of, goals, ground_in}

-- 1: "A cell's ring is the fewest moves to it from s. The last ring m is d, or the goal's ring if that is smaller", that being "the nearest goal's". "The window is all cells of ring
-- 0 to m." 2: "w(x) is the least cost of a walk from s to x that stays in the window. It may use more moves than x's ring."
abbrev pub seen : Job → List ℕ → ℕ → View
seen j bytes s = view_of (ground_in j bytes) j.depth s

-- the ring of x, and w of x
abbrev pub ring : Job → List ℕ → View → ℕ → ℕ
ring j bytes v x = ring_in (ground_in j bytes) j.depth v.rings x

abbrev pub w : Job → List ℕ → View → ℕ → ℕ
w j bytes v x = cost_in (ground_in j bytes) v.costs x

-- whether one of the rings 1 to k is empty. Number 9 asks it of the last ring, which is the depth's or the nearest goal's (`nine_means`)
unfoldable pub empty_ring : Job → List ℕ → View → ℕ → Bool
empty_ring j bytes v zero = false
empty_ring j bytes v (suc k) =
    let n = size (floor_of j bytes) in
    empty_ring j bytes v k || leb n (lowest n (λ x. eqb (ring j bytes v x) (suc k)))

-- 3: "For each ring k from 1 to m, the ring's best is the least p × w(x) + figure(x) over its cells. The new figure is the greatest of the m bests."
abbrev pub new_figure : Job → List ℕ → View → List ℕ → ℕ
new_figure j bytes v table = new_in (ground_in j bytes) j.depth j.p v table

-- 4: "The target is the cell of ring m with the least p × w + figure; ties go to the lower cell number."
abbrev pub target : Job → List ℕ → View → List ℕ → ℕ
target j bytes v table = target_in (ground_in j bytes) j.depth j.p v table

-- 5: "The route is found backward from the target: each time the lowest-numbered window cell from which one allowed move, added to its w, gives
-- exactly the w of the cell reached." And document 02: "Among routes of equal cost to the target, the one with fewest moves is to be taken; among those,
-- 01's backward rule applies, and each cell it picks must leave a fewest-move route." Where each move costs 32 × its price and 1 more, the least cost of
-- a walk in the window is 32 × w + n, n being the fewest moves of one that costs w; so 01's rule there is the rule of both (`prior_means`)
abbrev pub fineness : ℕ
fineness = 32

-- the fine price of a move that costs c, and the floor's ground with fine prices
abbrev pub fine : ℕ → ℕ
fine c = fineness * c + 1

abbrev pub fine_of : Floor → List ℕ → Ground
fine_of f gs = stretch (ground_of f gs) fineness 1

abbrev pub fine_in : Job → List ℕ → Ground
fine_in j bytes = fine_of (floor_of j bytes) (goals j)

-- the cells after s in order, to any cell x of the window; and as moves
unfoldable pub route : Job → List ℕ → (s x : ℕ) → List ℕ
route j bytes s x = route_of (fine_in j bytes) j.depth s x

unfoldable pub moves_along : Floor → ℕ → List ℕ → List ℕ
moves_along f a [] = []
moves_along f a (b ∷ bs) = heading f a b ∷ moves_along f b bs

-- what a leg costs at most, w of any cell of a window; and how many moves its route has at most
abbrev pub dearest_leg : ℕ
dearest_leg = dearest_price * deepest

abbrev pub most_moves : ℕ
most_moves = dearest_leg / least_price

-- what a new figure comes to at most: the greatest figure, and the greatest p times the dearest leg
abbrev pub highest_new : ℕ
highest_new = ceiling + finest * dearest_leg
