-- What the definitions mean, in the documents' words: moves, rings, the window, w, the new figure, the target, the route, true distances, and number 9.
-- All are what `learning` proves of any ground; here they are said of the model's own names.
use Prim.Native.Nat.{ℕ, zero, suc, ◌+◌, ◌%◌, ◌≤◌, ◌<◌}
use mathlib.Core.Path.{◌≡◌, refl, subst}
use mathlib.Core.Logic.{◌⊎◌, inl, inr, ◌≢◌}
use mathlib.Core.Bool.{true, false}
use mathlib.Core.List.{List, [], ◌∷◌, ◌++◌}
use native.Mathlib.Nat.{le_trans}
use native.Mathlib.Decide.{dec_le}
use native.Mathlib.Omega.{arith}
use lib.Dec.{T}
use lib.ListN.{length, get_or}
use Rattle.learning.specs.Walk.{Network, Walk, Any, Least, Leads, Arrives}
use Rattle.learning.specs.Ahead.{Window, Ahead}
use Rattle.learning.specs.Ground.{Goal, net_of, dist_in, dist_of, view_of, ring_of, last_of, leg_of}
use Rattle.learning.specs.Route.{Chain, prior_in}
use Rattle.learning.proofs.Walks.{turn}
use Rattle.learning.proofs.Sound.{ring_self, crosses}
use Rattle.learning.proofs.Ground.{dist-least, window, ring-low, ring_walk}
use Rattle.learning.proofs.Look.{answer_if, walk_inside}
use Rattle.learning.proofs.Route.{leg-moves}
use Rattle.learning.proofs.Routes.{chain_walk, route_none, route_more}
use Rattle.learning.proofs.Finer.{into_fine, fewest-moves, route-fewest, prior-fewest, prior-goes}
use Rattle.answers.specs.declared.Job.{Job}
use Rattle.model.specs.Floor.{Floor, size, Sized, dearest_price, doubled, slowly, price, ahead, allowed}
use Rattle.model.specs.Checks.{deepest, floor_of, ground_in}
use Rattle.model.specs.Lookahead.{seen, ring, w, empty_ring, new_figure, target, fineness, fine_in, route, most_moves}
use Rattle.model.specs.Opening.{distances, reaches}
use Rattle.model.specs.Decision.{at_goal}
use Rattle.model.proofs.Moves.{toll, price-move, price-toll, allowed-inside, allowed_some}
use Rattle.model.proofs.Soundness.{reaches_of, reaches_means}
use Rattle.model.proofs.Rings.{Bare, empty_none, empty_some, empty-full, empty_of}
use Rattle.model.specs.Grounds.{price-high}

-- ---- "A move is allowed when the cell moved into is on the floor and free. A straight move costs 10, a diagonal one 14.
-- A move that begins or ends in a slow cell costs double, 20 or 28, the same each way."

-- where there is a price, one of the eight moves leads there, and the price is that move's
pub price_means : (f : Floor) → Sized f → (x y : ℕ) → 1 ≤ price f x y
    → (m : ℕ) × (m < 8) × (allowed f x m ≡ true) × (ahead f x m ≡ y) × (price f x y ≡ doubled (slowly f x y) (toll m))
price_means f z x y h =
    let (m, l, a, e) = price-move f z x y h in
    (m, l, a, e, subst (λ c. price f x c ≡ doubled (slowly f x c) (toll m)) e (price-toll f z x m l (allowed-inside f z x m a) (allowed_some f z x m a)))

-- ---- "The true distance of a free cell is the least cost of any walk of allowed moves to the goal.", to any of them

-- the walks of a floor
abbrev pub net : Job → List ℕ → Network
net j bytes = net_of (ground_in j bytes)

-- some walk leads from x to a goal at cost c
abbrev pub Gets : Job → List ℕ → ℕ → ℕ → Type 0
Gets j bytes x c = Arrives (net j bytes) (Goal (ground_in j bytes)) x c

module _ (j : Job) (bytes : List ℕ) (x : ℕ) where
  pub distance_means : reaches j bytes (distances j bytes) x ≡ true → Least (Gets j bytes x) (dist_in (ground_in j bytes) (distances j bytes) x)
  unfolding dist_of
  distance_means e = dist-least (ground_in j bytes) x (reaches_means j bytes x e)

  pub no_distance_means : reaches j bytes (distances j bytes) x ≡ false → (c : ℕ) → ¬ Gets j bytes x c
  no_distance_means e c g = let t = reaches_of j bytes x (c, g) in let z : ◌≡◌ {A = ℕ} 0 1 = cc in absurd (omega arith)

-- ---- the lookahead from a cell s of the floor that is no goal

module _ (j : Job) (bytes : List ℕ) (s : ℕ) (deep : 1 ≤ j.depth) (floor : s < size (floor_of j bytes)) (aside : at_goal j bytes s ≡ false) where
  off : ¬ Goal (ground_in j bytes) s
  off g = subst T aside g

  -- 1 and 2, all at once
  pub window_means : Window (net j bytes) (Goal (ground_in j bytes)) j.depth s (seen j bytes s).last (ring j bytes (seen j bytes s)) (w j bytes (seen j bytes s))
  unfolding ring_of last_of leg_of
  window_means = window (ground_in j bytes) j.depth s floor deep off

  -- "A cell's ring is the fewest moves to it from s." Up to the depth; a cell beyond has a greater number
  pub ring_means : (x : ℕ) → ring j bytes (seen j bytes s) x ≤ j.depth → Least (λ n. (c : ℕ) × Walk (net j bytes) Any s x c n) (ring j bytes (seen j bytes s) x)
  unfolding ring_of
  ring_means x h = record { met = ring_walk (ground_in j bytes) j.depth s floor x h; low = λ n (c, t). ring-low (ground_in j bytes) j.depth s floor x c n t }

  pub ring_beyond : (x : ℕ) → j.depth < ring j bytes (seen j bytes s) x → (c n : ℕ) → Walk (net j bytes) Any s x c n → j.depth < n
  unfolding ring_of
  ring_beyond x h c n t = le_trans h (ring-low (ground_in j bytes) j.depth s floor x c n t)

  -- "The last ring m is d, or the goal's ring if that is smaller.", of several the nearest goal's
  pub last_means : Least (λ k. (k ≡ j.depth) ⊎ ((z : ℕ) × Goal (ground_in j bytes) z × (ring j bytes (seen j bytes s) z ≡ k))) (seen j bytes s).last
  last_means = record { met = window_means.ends; low = low }
    where
      low : (k : ℕ) → (k ≡ j.depth) ⊎ ((z : ℕ) × Goal (ground_in j bytes) z × (ring j bytes (seen j bytes s) z ≡ k)) → (seen j bytes s).last ≤ k
      low k (inl e) = omega (arith, window_means.depth)
      low k (inr (z, g, e)) = omega (arith, e, window_means.goals z g)

  -- "The window is all cells of ring 0 to m. w(x) is the least cost of a walk from s to x that stays in the window."
  abbrev pub InWindow : ℕ → Type 0
  InWindow x = ring j bytes (seen j bytes s) x ≤ (seen j bytes s).last

  pub window-inside : (x : ℕ) → InWindow x → x < size (floor_of j bytes)
  unfolding ring_of last_of
  window-inside x h = walk_inside (ground_in j bytes) floor (turn (window_means.attained x h).1)

  pub w_means : (x : ℕ) → InWindow x → Least (Leads (net j bytes) InWindow s x) (w j bytes (seen j bytes s) x)
  w_means x h = window_means.cheapest x h

  -- "For each ring k from 1 to m, the ring's best is the least p × w(x) + figure(x) over its cells. The new figure is the greatest of the m bests.
  -- The target is the cell of ring m with the least p × w + figure; ties go to the lower cell number."
  pub ahead_means : (table : List ℕ) → empty_ring j bytes (seen j bytes s) (seen j bytes s).last ≡ false
      → Ahead j.p (seen j bytes s).last (ring j bytes (seen j bytes s)) (w j bytes (seen j bytes s)) (λ x. get_or table x 0) (new_figure j bytes (seen j bytes s) table)
      (target j bytes (seen j bytes s) table)
  unfolding ring_of last_of leg_of
  ahead_means table e = answer_if (ground_in j bytes) j.depth j.p j.q j.quota deep s table floor off full
    where
      full : (k : ℕ) → k ≤ (seen j bytes s).last → (x : ℕ) × (ring j bytes (seen j bytes s) x ≡ k)
      full zero h = (s, omega (arith, ring_self window_means))
      full (suc k) h = let (x, l, q) = empty-full j bytes (seen j bytes s) (seen j bytes s).last e (suc k) (omega arith) h in (x, q)

  -- "Among routes of equal cost to the target, the one with fewest moves is to be taken; among those, 01's backward rule applies, and each cell it picks must
  -- leave a fewest-move route."

  -- x can be reached in the window by so many moves at the cost w(x); and n(x), the fewest of them
  abbrev pub CheapIn : ℕ → ℕ → Type 0
  CheapIn x m = Walk (net j bytes) InWindow s x (w j bytes (seen j bytes s) x) m

  abbrev pub n : ℕ → ℕ
  n x = leg_of (fine_in j bytes) j.depth s x % fineness

  -- the cell before x on the route
  abbrev pub prior : ℕ → ℕ
  prior x = prior_in (fine_in j bytes) j.depth s (view_of (fine_in j bytes) j.depth s) x

  module _ (shallow : j.depth ≤ deepest) where
    pub n_means : (x : ℕ) → InWindow x → Least (CheapIn x) (n x)
    unfolding ring_of last_of leg_of
    n_means x h = fewest-moves (ground_in j bytes) fineness j.depth s (omega arith) deep floor off (omega arith) x h

    -- the route is a walk of the window that costs w, and has n moves
    pub route_means : (x : ℕ) → InWindow x
        → Chain (net j bytes) InWindow s (route j bytes s x) x (w j bytes (seen j bytes s) x) × (length (route j bytes s x) ≡ n x)
    unfolding route ring_of last_of leg_of
    route_means x h = route-fewest (ground_in j bytes) fineness j.depth s (omega arith) deep floor off (omega arith) x h

    -- so none of that cost has fewer
    pub route_smooth : (x m : ℕ) → InWindow x → CheapIn x m → length (route j bytes s x) ≤ m
    route_smooth x m h t = omega (arith, (route_means x h).1, (n_means x h).low m t)

    pub route_few : (x : ℕ) → InWindow x → length (route j bytes s x) ≤ most_moves
    unfolding ring_of last_of leg_of
    route_few x h =
        omega (arith, leg-moves window_means dearest_price (λ a b c e. omega (arith, e.1, price-high (floor_of j bytes) a b)) x _ h (chain_walk (route_means x h).0), window_means.depth)

    -- "each time the lowest-numbered window cell from which one allowed move, added to its w, gives exactly the w of the cell reached", and leaves a
    -- fewest-move route
    pub prior_means : (x : ℕ) → InWindow x → x ≢ s → Least (λ b. InWindow b × (1 ≤ price (floor_of j bytes) b x)
        × (w j bytes (seen j bytes s) b + price (floor_of j bytes) b x ≡ w j bytes (seen j bytes s) x) × (n b + 1 ≡ n x)) (prior x)
    unfolding ring_of last_of leg_of
    prior_means x h o = prior-fewest (ground_in j bytes) fineness j.depth s (omega arith) deep floor off (omega arith) x h o

    -- in walks: a fewest-move route to x of cost w(x) goes on from it, and from no lower cell
    pub prior-leaves : (x : ℕ) → InWindow x → x ≢ s → Least (λ b. (c m : ℕ) × Walk (net j bytes) InWindow s b c m × (1 ≤ price (floor_of j bytes) b x)
        × (c + price (floor_of j bytes) b x ≡ w j bytes (seen j bytes s) x) × (m + 1 ≡ n x)) (prior x)
    unfolding ring_of last_of leg_of
    prior-leaves x h o = prior-goes (ground_in j bytes) fineness j.depth s (omega arith) deep floor off (omega arith) x h o

    pub route_goes_back : (x : ℕ) → InWindow x → x ≢ s → route j bytes s x ≡ route j bytes s (prior x) ++ x ∷ []
    unfolding route ring_of last_of
    route_goes_back x h o =
        route_more (fine_in j bytes) j.depth s deep floor off x (prior x) (into_fine (ground_in j bytes) fineness j.depth s (omega arith) deep floor off x h) o refl

  pub route-ends : route j bytes s s ≡ []
  unfolding route
  route-ends = route_none (fine_in j bytes) j.depth s deep floor off

  -- 9: "a ring up to d is empty and the goal is in none before it", nor is any other
  abbrev pub Lost : ℕ → Type 0
  Lost k = (1 ≤ k) × (k ≤ j.depth) × Bare j bytes (seen j bytes s) k × ((z : ℕ) → Goal (ground_in j bytes) z → ring j bytes (seen j bytes s) z < k → ⊥)

  pub nine_means : empty_ring j bytes (seen j bytes s) (seen j bytes s).last ≡ true → (k : ℕ) × Lost k
  nine_means e =
      let (k, h, i, bare) = empty_some j bytes (seen j bytes s) (seen j bytes s).last e in
      (k, (h, le_trans i window_means.depth, bare, λ z g l. omega (arith, i, window_means.goals z g, l)))

  -- where a cell is on the last ring no ring is empty: the walk there crosses each
  pub nine_not : (x : ℕ) → ring j bytes (seen j bytes s) x ≡ (seen j bytes s).last → empty_ring j bytes (seen j bytes s) (seen j bytes s).last ≡ false
  nine_not x on = empty_none j bytes (seen j bytes s) (seen j bytes s).last (λ k l h. crossed k h)
    where
      crossed : (k : ℕ) → k ≤ (seen j bytes s).last → (y : ℕ) × (y < size (floor_of j bytes)) × (ring j bytes (seen j bytes s) y ≡ k)
      crossed k h =
          let c = crosses window_means {k = k} {a = s} {z = x} h (omega (arith, ring_self window_means)) (omega (arith, on)) (window_means.attained x (omega (arith, on))).1 in
          (c.at, window-inside c.at (omega (arith, c.on)), c.on)

  pub nine_is : (k : ℕ) → Lost k → empty_ring j bytes (seen j bytes s) (seen j bytes s).last ≡ true
  nine_is k (h, i, bare, none) = empty_of j bytes (seen j bytes s) (seen j bytes s).last k h (upto window_means.ends) bare
    where
      upto : ((seen j bytes s).last ≡ j.depth) ⊎ ((z : ℕ) × Goal (ground_in j bytes) z × (ring j bytes (seen j bytes s) z ≡ (seen j bytes s).last)) → k ≤ (seen j bytes s).last
      upto (inl e) = omega arith
      upto (inr (z, g, e)) = by (dec_le k (seen j bytes s).last)
        where
          by : Dec (k ≤ (seen j bytes s).last) → k ≤ (seen j bytes s).last
          by (yes l) = l
          by (no l) = absurd (none z g (omega (arith, e, l)))
