-- On the ground whose every price is k × price + 1, with k more than the moves of any least walk in a window, a cell's least cost is k × w + n:
-- w its least cost in the window, n the fewest moves at that cost. The backward rule there gives a walk of cost w and n moves; where no walk
-- of cost w has more, it is the ground's own route.
use Prim.Native.Nat.{ℕ, zero, suc, ◌+◌, ◌*◌, ◌/◌, ◌%◌, ◌≤◌, ◌<◌}
use mathlib.Core.Path.{◌≡◌, refl, sym, ap, ◌∙◌, subst}
use mathlib.Core.Logic.{◌≢◌}
use mathlib.Core.List.{List, [], ◌∷◌, ◌++◌}
use native.Mathlib.Nat.{le_antisymm, le_trans, mul-add, mul-one, mul-le-mul_left, lt_of_mul-lt-mul_left, lt_of_mul-lt-mul_right, mul-add-div, div-eq_of_lt, div-add-mod, mod-lt}
use native.Mathlib.Decide.{ℕ_discrete}
use native.Mathlib.Omega.{arith}
use lib.ListN.{length}
use Rattle.learning.specs.Walk.{Walk, stop, move, Least}
use Rattle.learning.specs.Ahead.{Window}
use Rattle.learning.specs.Ground.{Ground, Goal, net_of, view_of, ring_of, last_of, leg_of}
use Rattle.learning.specs.Route.{Chain, ended, step, prior_in, route_of}
use Rattle.learning.specs.Stretch.{stretched, stretched-move, stretched_some, stretch}
use Rattle.learning.proofs.Walks.{restate, least_same, first_in, turn, join}
use Rattle.learning.proofs.Route.{leg-moves}
use Rattle.learning.proofs.Routes.{chain_walk, prior-least, prior_is, route-chain, route_none, route_more}
use Rattle.learning.proofs.Ground.{window}
use Rattle.learning.proofs.Moves.{same_turn, ring-moves, last_moves, window-moves}
use Rattle.learning.proofs.Stretch.{stretch_walk, shrink_walk, stretch-moves}

-- two numbers in base k
digits_low : (k c m w n : ℕ) → k * c + m ≤ k * w + n → n < k → c ≤ w
digits_low k c m w n h l =
    let more : k * c < k * (w + 1) = omega (arith, mul-add k w 1, mul-one k) in
    omega (arith, lt_of_mul-lt-mul_left k more)

-- the cells of a chain
shrink_chain : (G : Ground) (k e : ℕ) (some : 1 ≤ k) {S S' : ℕ → Type 0} → ((x : ℕ) → S x → S' x) → {a z v : ℕ} {xs : List ℕ} → Chain (net_of (stretch G k e)) S a xs z v
    → (c : ℕ) × Chain (net_of G) S' a xs z c × (k * c + e * length xs ≡ v)
shrink_chain G k e some h (ended {a = a} s) = (0, ended (h a s), omega arith)
shrink_chain G k e some h (step {a = a} {b = b} {xs = xs} s f w) =
    let (c, u, i) = shrink_chain G k e some h w in
    let l = stretched_some k e (G.price a b) (omega (arith, f.0, f.1)) in
    (G.price a b + c, step (h a s) (l, refl) u, omega (arith, f.1, stretched-move k e (G.price a b) l, mul-add k (G.price a b) c, mul-add e (length xs) 1))

module _ (G : Ground) (k d s : ℕ) (some : 1 ≤ k) (deep : 1 ≤ d) (floor : s < G.cells) (g : ¬ Goal G s) where
  abbrev pub fine : Ground
  fine = stretch G k 1

  abbrev pub InWindow : ℕ → Type 0
  InWindow x = ring_of G d s x ≤ last_of G d s

  -- a walk in the window that costs w(x), by its number of moves
  abbrev pub CheapIn : ℕ → ℕ → Type 0
  CheapIn x n = Walk (net_of G) InWindow s x (leg_of G d s x) n

  -- n(x), as what is left of the cost on the fine ground
  abbrev pub moves_to : ℕ → ℕ
  moves_to x = leg_of fine d s x % k

  record Fine (x : ℕ) : Type 0 where
    moves : ℕ
    both : leg_of fine d s x ≡ k * leg_of G d s x + moves
    few : moves < k
    fewest : Least (CheapIn x) moves

  W : Window (net_of G) (Goal G) d s (last_of G d s) (ring_of G d s) (leg_of G d s)
  W = window G d s floor deep g

  -- the window is that of the fine ground, at its costs
  pub window-fine : Window (net_of fine) (Goal fine) d s (last_of G d s) (ring_of G d s) (leg_of fine d s)
  window-fine = window-moves (stretch-moves G k 1 some) d s floor deep g (leg_of fine d s) (λ x h. refl)

  -- the same cells in the window
  pub into_fine : (x : ℕ) → InWindow x → ring_of fine d s x ≤ last_of fine d s
  into_fine x h =
      omega (arith, last_moves (stretch-moves G k 1 some) d s floor deep g, ring-moves (stretch-moves G k 1 some) d s floor x (omega (arith, W.depth)))

  pub from_fine : (x : ℕ) → ring_of fine d s x ≤ last_of fine d s → InWindow x
  from_fine x h =
      let l = last_moves (stretch-moves G k 1 some) d s floor deep g in
      omega (arith, ring-moves (same_turn (stretch-moves G k 1 some)) d s floor x (omega (arith, W.depth)))

  module _ (large : G.dearest * d < k * G.least) where
    cheap_few : (x n : ℕ) → InWindow x → CheapIn x n → n < k
    cheap_few x n h w =
        let l = leg-moves W G.dearest (λ a b c e. omega (arith, e.1, G.high a b)) x n h w in
        let m = mul-le-mul_left G.dearest (le_trans h W.depth) in
        lt_of_mul-lt-mul_right G.least (omega arith)

    fine-leg : (x : ℕ) → InWindow x → Fine x
    fine-leg x h =
        let (n, w) = (W.cheapest x h).met in
        let (n', v) = (window-fine.cheapest x h).met in
        let (c, u, e) = shrink_walk G k 1 some v in
        let short = (window-fine.cheapest x h).low _ (n, stretch_walk G k 1 some w) in
        let few = cheap_few x n h w in
        let same : c ≡ leg_of G d s x = le_antisymm (digits_low k c n' (leg_of G d s x) n (omega arith) few) ((W.cheapest x h).low c (n', u)) in
        let both : leg_of fine d s x ≡ k * leg_of G d s x + n' = omega (arith, ap (λ (y : ℕ). k * y) same) in record {
          moves = n';
          both = both;
          few = omega arith;
          fewest = record {
            met = subst (λ y. Walk (net_of G) InWindow s x y n') same u;
            low = λ m t. omega (arith, both, (window-fine.cheapest x h).low _ (m, stretch_walk G k 1 some t));
          };
        }

    -- w is a division, n a remainder: the fewest moves of a walk in the window that costs w
    pub leg_divided : (x : ℕ) → InWindow x → leg_of fine d s x / k ≡ leg_of G d s x
    leg_divided x h = let f = fine-leg x h in ap (λ (y : ℕ). y / k) f.both ∙ mul-add-div some (leg_of G d s x) f.moves ∙ omega (arith, div-eq_of_lt f.few)

    pub leg_both : (x : ℕ) → InWindow x → leg_of fine d s x ≡ k * leg_of G d s x + moves_to x
    leg_both x h = omega (arith, div-add-mod (leg_of fine d s x) k, ap (λ (y : ℕ). k * y) (leg_divided x h))

    pub fewest-moves : (x : ℕ) → InWindow x → Least (CheapIn x) (moves_to x)
    fewest-moves x h = let f = fine-leg x h in subst (Least (CheapIn x)) (omega (arith, leg_both x h, f.both)) f.fewest

    -- the route has cost w and n moves
    pub route-fewest : (x : ℕ) → InWindow x → Chain (net_of G) InWindow s (route_of fine d s x) x (leg_of G d s x) × (length (route_of fine d s x) ≡ moves_to x)
    route-fewest x h =
        let (c, u, e) = shrink_chain G k 1 some from_fine (route-chain fine d s deep floor g x (into_fine x h)) in
        let low = (W.cheapest x h).low c (_, chain_walk u) in
        let same : c ≡ leg_of G d s x = le_antisymm (digits_low k c (length (route_of fine d s x)) (leg_of G d s x) (moves_to x) (omega (arith, leg_both x h)) (mod-lt (leg_of fine d s x) some)) low in
        (subst (Chain (net_of G) InWindow s (route_of fine d s x) x) same u, omega (arith, leg_both x h, ap (λ (y : ℕ). k * y) same))

    -- each time by the lowest cell of the window with w(b) + price = w(x) and n(b) + 1 = n(x)
    abbrev pub Smooth : ℕ → ℕ → Type 0
    Smooth x b = InWindow b × (1 ≤ G.price b x) × (leg_of G d s b + G.price b x ≡ leg_of G d s x) × (moves_to b + 1 ≡ moves_to x)

    smooth_of : (x b : ℕ) → InWindow x → InWindow b → 1 ≤ G.price b x → leg_of fine d s b + stretched k 1 (G.price b x) ≡ leg_of fine d s x → Smooth x b
    smooth_of x b h i l e =
        let (n, w) = (W.cheapest b i).met in
        let low = (W.cheapest x h).low _ (_, join w (move i (l, refl) (stop h))) in
        let sum : k * (leg_of G d s b + G.price b x) + (moves_to b + 1) ≡ k * leg_of G d s x + moves_to x =
        omega (arith, leg_both x h, leg_both b i, stretched-move k 1 (G.price b x) l, mul-add k (leg_of G d s b) (G.price b x)) in
        let same : leg_of G d s b + G.price b x ≡ leg_of G d s x =
        le_antisymm (digits_low k (leg_of G d s b + G.price b x) (moves_to b + 1) (leg_of G d s x) (moves_to x) (omega arith) (mod-lt (leg_of fine d s x) some)) (omega arith) in
        (i, l, same, omega (arith, ap (λ (y : ℕ). k * y) same))

    of_smooth : (x b : ℕ) → InWindow x → Smooth x b → leg_of fine d s b + stretched k 1 (G.price b x) ≡ leg_of fine d s x
    of_smooth x b h (i, l, e, f) =
        omega (arith, leg_both x h, leg_both b i, stretched-move k 1 (G.price b x) l, mul-add k (leg_of G d s b) (G.price b x), ap (λ (y : ℕ). k * y) e)

    pub prior-fewest : (x : ℕ) → InWindow x → x ≢ s → Least (Smooth x) (prior_in fine d s (view_of fine d s) x)
    prior-fewest x h o =
        least_same (λ b (i, l, e). smooth_of x b h (from_fine b i) (stretched_some k 1 (G.price b x) l) e)
        (λ b t. (into_fine b t.0, (stretch-moves G k 1 some).there b x t.1, of_smooth x b h t)) (prior-least fine d s deep floor g x (into_fine x h) o)

    -- in walks: the lowest cell b such that a walk of the window to x that costs w(x) and has n(x) moves goes by b last
    abbrev pub GoesBy : ℕ → ℕ → Type 0
    GoesBy x b = (c m : ℕ) × Walk (net_of G) InWindow s b c m × (1 ≤ G.price b x) × (c + G.price b x ≡ leg_of G d s x) × (m + 1 ≡ moves_to x)

    smooth_goes : (x b : ℕ) → InWindow x → GoesBy x b → Smooth x b
    smooth_goes x b h (c, m, t, l, e, f) =
        let i : InWindow b = first_in (turn t) in
        let on : Walk (net_of G) InWindow b x (G.price b x) 1 = restate (omega arith) refl (move i (l, refl) (stop h)) in
        let (n, u) = (W.cheapest b i).met in
        let same : c ≡ leg_of G d s b = omega (arith, (W.cheapest b i).low c (m, t), (W.cheapest x h).low _ (_, join u on)) in
        let few = (fewest-moves b i).low m (restate same refl t) in
        let most = (fewest-moves x h).low _ (restate (omega arith) refl (join (fewest-moves b i).met on)) in
        (i, l, omega arith, omega arith)

    pub prior-goes : (x : ℕ) → InWindow x → x ≢ s → Least (GoesBy x) (prior_in fine d s (view_of fine d s) x)
    prior-goes x h o =
        least_same (λ b (i, l, e, f). (leg_of G d s b, moves_to b, (fewest-moves b i).met, l, e, f)) (λ b t. smooth_goes x b h t) (prior-fewest x h o)

    -- where all walks to a cell x that cost w(x) have the same number of moves, it is the ground's own route
    module _ (steady : (x m n : ℕ) → InWindow x → CheapIn x m → CheapIn x n → m ≡ n) where
      prior_steady : (x : ℕ) → InWindow x → x ≢ s → prior_in G d s (view_of G d s) x ≡ prior_in fine d s (view_of fine d s) x
      prior_steady x h o =
          let y = prior-fewest x h o in
          let (i, l, e, f) = y.met in
          prior_is G d s deep floor g x (prior_in fine d s (view_of fine d s) x) i l e (λ b i l e. y.low b (i, l, e, one_more b i l e))
        where
          one_more : (b : ℕ) → InWindow b → 1 ≤ G.price b x → leg_of G d s b + G.price b x ≡ leg_of G d s x → moves_to b + 1 ≡ moves_to x
          one_more b i l e =
              steady x (moves_to b + 1) (moves_to x) h (restate (omega arith) refl (join (fewest-moves b i).met (move i (l, refl) (stop h)))) (fewest-moves x h).met

      abbrev Steady : ℕ → Type 0
      Steady x = route_of fine d s x ≡ route_of G d s x

      one_back : (x : ℕ) → InWindow x → ((y : ℕ) → InWindow y → moves_to y < moves_to x → Steady y) → Dec (x ≡ s) → Steady x
      one_back x h before (yes e) = subst Steady (sym e) (route_none fine d s deep floor g ∙ sym (route_none G d s deep floor g))
      one_back x h before (no o) =
          let y : ℕ = prior_in fine d s (view_of fine d s) x in
          let (i, l, e, f) = (prior-fewest x h o).met in
          route_more fine d s deep floor g x y (into_fine x h) o refl ∙ ap (λ xs. xs ++ x ∷ []) (before y i (omega arith))
          ∙ sym (route_more G d s deep floor g x y h o (prior_steady x h o))

      all_back : (n x : ℕ) → InWindow x → moves_to x < n → Steady x
      all_back zero x h l = absurd (omega arith)
      all_back (suc n) x h l = one_back x h (λ y i f. all_back n y i (omega arith)) (ℕ_discrete x s)

      pub route_steady : (x : ℕ) → InWindow x → route_of fine d s x ≡ route_of G d s x
      route_steady x h = all_back (suc (moves_to x)) x h (omega arith)
