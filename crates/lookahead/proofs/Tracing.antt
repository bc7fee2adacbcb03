-- The route is written one move more at a time: the cell before is the model's, so the moves are those of its route.
-- Assumes nothing.
use mathlib.Core.Path.{◌≡◌, ap, ap₂, sym, ◌∙◌}
use mathlib.Core.List.{List, [], ◌∷◌, ◌++◌, append-nil}
use mathlib.Core.Logic.{◌≢◌}
use Prim.Native.Nat.{ℕ, suc, ◌+◌, ◌-◌, ◌≤◌, ◌<◌}
use native.Mathlib.Omega.{arith}
use lib.ListN.{length, set, take, drop, length-set, length-drop, drop_of_length-le, get_or-eq_default}
use lib.Seq.{take_all, get_or-drop, get_or-set_same, drop-set-lt, drop-cons, append_snoc}
use Rattle.learning.specs.Ground.{Ground, view_of, ring_of, last_of}
use Rattle.learning.specs.Stretch.{stretched-move, stretched_some}
use Rattle.learning.specs.Route.{prior_in}
use Rattle.learning.proofs.Routes.{prior_before, prior_is, route_none, route_more}
use Rattle.learning.proofs.Finer.{into_fine, from_fine}
use Rattle.answers.specs.declared.Job.{Job}
use Rattle.model.specs.Floor.{Floor, least_price, price}
use Rattle.model.specs.Grounds.{price-low}
use Rattle.model.specs.Checks.{floor_of, ground_in}
use Rattle.model.specs.Lookahead.{fineness, fine, fine_in, route, moves_along, most_moves}
use Rattle.model.proofs.Meaning.{route_means}
use Rattle.model.proofs.Steps.{is_false, moves_more}
use Rattle.lookahead.specs.declared.Link.{Link}
use Rattle.lookahead.specs.Contract.{Asked, Near, Seen, moves_to, Traced}
use Rattle.lookahead.specs.Marks.{In}
use Rattle.lookahead.specs.Costs.{at, Costs}
use Rattle.lookahead.specs.Way.{Before, Prior, Collecting, Collected}
use Rattle.lookahead.proofs.Stores.{by_store}
use Rattle.lookahead.proofs.Meaning.{start_on, not_goal, near-cost, near-free, near_of}

-- a store right ahead of a last part
ahead : (way : List ℕ) (k m : ℕ) → k < length way → drop k (set way k m) ≡ m ∷ drop (suc k) way
ahead way k m l =
    drop-cons (set way k m) k 0 (omega (arith, length-set way k m))
    ∙ ap₂ (λ a b. a ∷ b) (get_or-set_same way k m 0 l) (drop-set-lt (suc k) way k m (omega arith))

module _ {j : Job} {bytes : List ℕ} {s : ℕ} (Q : Asked j bytes s) {base : ℕ} {mark cost : List ℕ} (E : Seen j bytes s base mark cost) where
  abbrev f : Floor
  f = floor_of j bytes

  abbrev G : Ground
  G = ground_in j bytes

  abbrev d : ℕ
  d = j.depth

  near : (x : ℕ) → In base mark x → Near j bytes s x
  near = near_of Q E

  pub costs_of : Costs (floor_of j bytes) base mark cost
  costs_of = record {
    sized = Q.sized;
    marks = E.spent.size;
    costs = E.size;
    free = λ x i. near-free Q x (near x i);
    small = λ x i. omega (arith, E.costs x (near x i), near-cost Q x (near x i));
  }

  pub in_of : (x : ℕ) → Near j bytes s x → In base mark x
  in_of x h = omega (arith, E.marks x h)

  -- the same cells are in the fine window
  into : (x : ℕ) → Near j bytes s x → ring_of (fine_in j bytes) d s x ≤ last_of (fine_in j bytes) d s
  unfolding ring_of last_of
  into x h = into_fine G fineness d s (omega arith) Q.shallow (start_on Q) (not_goal Q) x h

  out_of : (x : ℕ) → ring_of (fine_in j bytes) d s x ≤ last_of (fine_in j bytes) d s → Near j bytes s x
  unfolding ring_of last_of
  out_of x h = from_fine G fineness d s (omega arith) Q.shallow (start_on Q) (not_goal Q) x h

  -- every cell of the window but s has one before it
  pub some_prior : (x : ℕ) → Near j bytes s x → x ≢ s → (y : ℕ) × Before (floor_of j bytes) base mark cost x y
  some_prior x h o =
      let p = prior_before (fine_in j bytes) d s Q.shallow (start_on Q) (not_goal Q) x (into x h) o in
      let near = out_of p.at p.near in
      let some = stretched_some fineness 1 (price f p.at x) (omega arith) in
      let at-price = stretched-move fineness 1 (price f p.at x) some in
      (p.at, record { inside = in_of p.at near; move = some; exact = omega (arith, E.costs p.at near, E.costs x h) })

  -- no move leads from s to itself
  moves_none : moves_to j bytes s s ≡ []
  unfolding moves_along route
  moves_none = ap (moves_along f s) (route_none (fine_in j bytes) d s Q.shallow (start_on Q) (not_goal Q))

  pub collects_none : {x : ℕ} {way : List ℕ} → Near j bytes s x → length way ≡ most_moves → Collecting j bytes s cost x most_moves x way
  collects_none {x} {way} h l = record {
    near = h;
    fits = omega arith;
    size = l;
    room = omega (arith, E.costs x h, near-cost Q x h);
    moves = sym (ap (λ r. moves_to j bytes s x ++ r) (drop_of_length-le way {i = most_moves} (omega arith)) ∙ append-nil (moves_to j bytes s x));
    low = λ i p. rw (get_or-eq_default way 0 {n = i} (omega arith)) (omega arith);
  }

  pub collected : {x k cell : ℕ} {way : List ℕ} → cell ≡ s → Collecting j bytes s cost x k cell way → Collected j bytes s x way k
  collected {k = k} {way = way} e c = record {
    size = c.size;
    fits = c.fits;
    moves = c.moves ∙ ap (λ ms. ms ++ drop k way) (ap (λ y. moves_to j bytes s y) e ∙ moves_none);
    low = c.low;
  }

  -- copied to the front, they are the route
  pub traced : {x k n : ℕ} {way out out' : List ℕ} → Collected j bytes s x way k → n ≡ most_moves - k → out' ≡ take n (drop k way) ++ drop n out → Traced j bytes s x out out' n
  traced {x} {k} {n} {way} {out} c e w =
      let count : n ≡ length (moves_to j bytes s x) = omega (arith, ap length c.moves, length-drop k way) in record {
        count = count;
        written = w ∙ ap (λ l. l ++ drop n out) (take_all n (drop k way) (omega (arith, ap length c.moves)) ∙ sym c.moves);
        few = omega arith;
        moves = λ i. rw (c.moves, get_or-drop k way i 0) (c.low (k + i) (omega arith));
      }

  module _ {x y k : ℕ} {way : List ℕ} (C : Collecting j bytes s cost y k x way) (o : x ≢ s) {b : Link} (P : Prior (floor_of j bytes) base mark cost x b) where
    -- the cell before x is in the window, and cheaper
    prior-near : Near j bytes s b.cell
    prior-near = near b.cell P.from.before.inside

    prior-cheap : at cost b.cell + fine least_price ≤ at cost x
    prior-cheap = omega (arith, price-low f b.cell x P.from.before.move)

    prior_same : prior_in (fine_in j bytes) d s (view_of (fine_in j bytes) d s) x ≡ b.cell
    prior_same =
        let P' = P.from.before in
        let at-price = stretched-move fineness 1 (price f b.cell x) P'.move in
        prior_is (fine_in j bytes) d s Q.shallow (start_on Q) (not_goal Q) x b.cell (into b.cell prior-near) (omega arith)
        (omega (arith, E.costs b.cell prior-near, E.costs x C.near))
        (λ y ny p e.
        let some = stretched_some fineness 1 (price f y x) p in
        P.lowest y (record { inside = in_of y (out_of y ny); move = some; exact = omega (arith, E.costs y (out_of y ny), E.costs x C.near, stretched-move fineness 1 (price f y x) some) }))

    moves_same : moves_to j bytes s x ≡ moves_to j bytes s b.cell ++ b.m ∷ []
    unfolding route
    moves_same =
        ap (moves_along f s) (route_more (fine_in j bytes) d s Q.shallow (start_on Q) (not_goal Q) x b.cell (into x C.near) o prior_same)
        ∙ moves_more f x (route_means j bytes s Q.shallow (start_on Q) (is_false _ (not_goal Q)) Q.deep b.cell prior-near).0
        ∙ ap (λ m. moves_to j bytes s b.cell ++ m ∷ []) (sym P.from.heading)

    -- the move from it comes ahead of the moves that stand there
    moves-ahead : (i : ℕ) → i < length way → moves_to j bytes s x ++ drop (suc i) way ≡ moves_to j bytes s b.cell ++ drop i (set way i b.m)
    moves-ahead i l =
        ap (λ ms. ms ++ drop (suc i) way) moves_same
        ∙ append_snoc (moves_to j bytes s b.cell) b.m (drop (suc i) way)
        ∙ ap (λ r. moves_to j bytes s b.cell ++ r) (sym (ahead way i b.m l))

    pub prior_less : at cost b.cell < at cost x
    prior_less = omega (arith, prior-cheap)

    pub collects_room : 1 ≤ k
    collects_room = omega (arith, prior-cheap)

    pub collects_more : Collecting j bytes s cost y (k - 1) b.cell (set way (k - 1) b.m)
    collects_more =
        let t : k - 1 < length way = omega (arith, collects_room) in
        let e : suc (k - 1) ≡ k = omega (arith, collects_room) in record {
          near = prior-near;
          fits = omega arith;
          size = simp length-set C.size;
          room = omega (arith, prior-cheap);
          moves = C.moves ∙ ap (λ i. moves_to j bytes s x ++ drop i way) (sym e) ∙ moves-ahead (k - 1) t;
          low = λ i p. by_store (λ v. v < 8) way (k - 1) b.m i t (λ q. P.from.one) (λ q. C.low i (omega arith));
        }
