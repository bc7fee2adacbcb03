-- The route is a walk in the window from the cell to the target, at the target's cost.
use Prim.Native.Nat.{ℕ, zero, suc, ◌+◌, ◌≤◌, ◌<◌}
use mathlib.Core.Path.{◌≡◌, refl, sym, ap, ◌∙◌, subst}
use mathlib.Core.Bool.{Bool, true, false, ◌&&◌}
use mathlib.Core.Logic.{◌≢◌}
use mathlib.Core.List.{List, [], ◌∷◌, ◌++◌}
use native.Mathlib.Omega.{arith}
use lib.Dec.{T, eqb, leb, eqb→eq, eqb_refl, leb→le, le→leb}
use lib.ListN.{length}
use Rattle.learning.specs.Walk.{Network, Walk, stop, move, Least}
use Rattle.learning.specs.Ahead.{Window}
use Rattle.learning.specs.Ground.{Ground, Goal, net_of, view_of, cost_in, ring_of, last_of, leg_of}
use Rattle.learning.specs.Route.{Chain, ended, step, prior_in, route_from, route_in, route_of}
use Rattle.learning.proofs.Walks.{least_unique}
use Rattle.learning.proofs.Sound.{ring_self}
use Rattle.learning.proofs.Spread.{both_true, first_true, second-true}
use Rattle.learning.proofs.Ground.{window}
use Rattle.learning.proofs.Look.{lowest-low, lowest-met, eqb_of}
use Rattle.learning.proofs.Route.{Before, some_before}

-- a chain is a walk of as many moves as it has cells
pub chain_walk : {N : Network} {S : ℕ → Type 0} {a z c : ℕ} {xs : List ℕ} → Chain N S a xs z c → Walk N S a z c (length xs)
chain_walk (ended s) = stop s
chain_walk (step s e k) = move s e (chain_walk k)

-- one move more at the end
chain_snoc : {N : Network} {S : ℕ → Type 0} {a z c : ℕ} {xs : List ℕ} (x d : ℕ) → Chain N S a xs z c → N.Edge z x d → S x → Chain N S a (xs ++ x ∷ []) x (c + d)
chain_snoc {N} {S} {a} x d (ended s) e t = subst (Chain N S a (x ∷ []) x) (omega arith) (step s e (ended t))
chain_snoc {N} {S} {a} {c = c} {xs = xs} x d (step s f k) e t = subst (Chain N S a (xs ++ x ∷ []) x) (omega arith) (step s f (chain_snoc x d k e t))

module _ (G : Ground) (d s : ℕ) (deep : 1 ≤ d) (floor : s < G.cells) (g : ¬ Goal G s) where
  W : Window (net_of G) (Goal G) d s (last_of G d s) (ring_of G d s) (leg_of G d s)
  W = window G d s floor deep g

  prior : ℕ → ℕ
  prior x = prior_in G d s (view_of G d s) x

  -- one move from b, a cell of the window, gives exactly the cost of x; and the test of it
  abbrev Gives : ℕ → ℕ → Type 0
  Gives x b = (ring_of G d s b ≤ last_of G d s) × (1 ≤ G.price b x) × (leg_of G d s b + G.price b x ≡ leg_of G d s x)

  abbrev near : ℕ → Bool
  near b = leb (ring_of G d s b) (last_of G d s)

  abbrev priced : ℕ → ℕ → Bool
  priced x b = leb 1 (G.price b x)

  abbrev exact : ℕ → ℕ → Bool
  exact x b = eqb (leg_of G d s b + G.price b x) (leg_of G d s x)

  abbrev gives : ℕ → ℕ → Bool
  gives x b = near b && (priced x b && exact x b)

  gives_of : (x b : ℕ) → Gives x b → T (gives x b)
  gives_of x b (n, c, e) = both_true (near b) _ (le→leb _ _ n) (both_true (priced x b) _ (le→leb 1 _ c) (eqb_of _ _ e))

  gives_means : (x b : ℕ) → T (gives x b) → Gives x b
  gives_means x b t =
      let u = second-true (near b) _ t in
      (leb→le _ _ (first_true (near b) _ t), leb→le 1 _ (first_true (priced x b) _ u), eqb→eq _ _ (second-true (priced x b) _ u))

  -- where there is such a cell, the cell before x is the lowest
  lowest-gives : (x y : ℕ) → Gives x y → Least (Gives x) (prior x)
  unfolding prior prior_in ring_of last_of leg_of
  lowest-gives x y o = record {
    met = gives_means x (prior x) (lowest-met G.cells (gives x) y (G.inside y x o.1) (gives_of x y o));
    low = λ b h. lowest-low G.cells (gives x) b (G.inside b x h.1) (gives_of x b h);
  }

  pub prior-least : (x : ℕ) → ring_of G d s x ≤ last_of G d s → x ≢ s
      → Least (λ b. (ring_of G d s b ≤ last_of G d s) × (1 ≤ G.price b x) × (leg_of G d s b + G.price b x ≡ leg_of G d s x)) (prior_in G d s (view_of G d s) x)
  unfolding prior
  prior-least x h o = let y = some_before W x h o in lowest-gives x y.at (y.near, omega (arith, y.edge.0, y.edge.1), omega (arith, y.exact, y.edge.1))

  pub prior_is : (x y : ℕ) → ring_of G d s y ≤ last_of G d s → 1 ≤ G.price y x → leg_of G d s y + G.price y x ≡ leg_of G d s x
      → ((b : ℕ) → ring_of G d s b ≤ last_of G d s → 1 ≤ G.price b x → leg_of G d s b + G.price b x ≡ leg_of G d s x → y ≤ b)
      → prior_in G d s (view_of G d s) x ≡ y
  unfolding prior
  prior_is x y h p e low = least_unique (lowest-gives x y (h, p, e)) (record { met = (h, p, e); low = λ b (n, c, f). low b n c f })

  pub prior_before : (x : ℕ) → ring_of G d s x ≤ last_of G d s → x ≢ s → Before (net_of G) (last_of G d s) (ring_of G d s) (leg_of G d s) x
  unfolding prior
  prior_before x h o = let (n, c, e) = (prior-least x h o).met in record { at = prior x; price = G.price (prior x) x; near = n; edge = (c, refl); exact = e }

  self_near : ring_of G d s s ≤ last_of G d s
  self_near = omega (arith, ring_self W)

  self_cost : leg_of G d s s ≡ 0
  self_cost = omega (arith, (W.cheapest s self_near).low 0 (0, stop self_near))

  from_chain : (fuel : ℕ) (b : Bool) (x : ℕ) → eqb x s ≡ b → leg_of G d s x < fuel → ring_of G d s x ≤ last_of G d s
      → Chain (net_of G) (λ y. ring_of G d s y ≤ last_of G d s) s (route_from G d s (view_of G d s) fuel b x) x (leg_of G d s x)
  unfolding route_from prior prior_before
  from_chain zero b x e h l = absurd (omega arith)
  from_chain (suc fuel) true x e h l =
      let same : x ≡ s = eqb→eq x s (subst T (sym e) tt) in
      subst (λ y. Chain (net_of G) (λ y. ring_of G d s y ≤ last_of G d s) s [] y (leg_of G d s y)) (sym same)
      (subst (Chain (net_of G) (λ y. ring_of G d s y ≤ last_of G d s) s [] s) (sym self_cost) (ended self_near))
  from_chain (suc fuel) false x e h l =
      let y = prior_before x l (λ q. subst T e (eqb_of x s q)) in
      let k = from_chain fuel (eqb (prior x) s) (prior x) refl (omega (arith, y.exact, y.edge.0)) y.near in
      subst (Chain (net_of G) (λ y. ring_of G d s y ≤ last_of G d s) s (route_from G d s (view_of G d s) fuel (eqb (prior x) s) (prior x) ++ x ∷ []) x) y.exact
      (chain_snoc x y.price k y.edge l)

  pub route-chain : (x : ℕ) → ring_of G d s x ≤ last_of G d s → Chain (net_of G) (λ y. ring_of G d s y ≤ last_of G d s) s (route_of G d s x) x (leg_of G d s x)
  unfolding route_in leg_of
  route-chain x l = from_chain (suc (leg_of G d s x)) (eqb x s) x refl (omega arith) l

  -- more fuel than the cost changes nothing
  enough : (n m : ℕ) (b : Bool) (x : ℕ) → eqb x s ≡ b → leg_of G d s x < n → leg_of G d s x < m → ring_of G d s x ≤ last_of G d s
      → route_from G d s (view_of G d s) n b x ≡ route_from G d s (view_of G d s) m b x
  unfolding route_from prior prior_before
  enough zero m b x e h k l = absurd (omega arith)
  enough (suc n) zero b x e h k l = absurd (omega arith)
  enough (suc n) (suc m) true x e h k l = refl
  enough (suc n) (suc m) false x e h k l =
      let y = prior_before x l (λ q. subst T e (eqb_of x s q)) in
      ap (λ xs. xs ++ x ∷ []) (enough n m (eqb (prior x) s) (prior x) refl (omega (arith, y.exact, y.edge.0)) (omega (arith, y.exact, y.edge.0)) y.near)

  -- the route to s is empty; to any other cell of the window it is the route to the cell before it, and then the cell
  pub route_none : route_of G d s s ≡ []
  unfolding route_in route_from
  route_none = go (eqb s s) (eqb_refl s)
    where
      go : (b : Bool) → T b → route_from G d s (view_of G d s) (suc (cost_in G (view_of G d s).costs s)) b s ≡ []
      go true t = refl
      go false t = absurd t

  pub route_more : (x y : ℕ) → ring_of G d s x ≤ last_of G d s → x ≢ s → prior_in G d s (view_of G d s) x ≡ y → route_of G d s x ≡ route_of G d s y ++ x ∷ []
  unfolding route_in route_from leg_of prior prior_before
  route_more x y l o e = go (eqb x s) refl
    where
      go : (b : Bool) → eqb x s ≡ b → route_from G d s (view_of G d s) (suc (leg_of G d s x)) b x ≡ route_of G d s y ++ x ∷ []
      go true q = absurd (o (eqb→eq x s (subst T (sym q) tt)))
      go false q =
          let z = prior_before x l o in
          ap (λ xs. xs ++ x ∷ [])
          (enough (leg_of G d s x) (suc (leg_of G d s (prior x))) (eqb (prior x) s) (prior x) refl (omega (arith, z.exact, z.edge.0)) (omega arith) z.near
          ∙ ap (λ b. route_of G d s b) e)
