-- What the lists mean: a window in the lists is the model's, and the other way round.
-- Assumes nothing.
use mathlib.Core.Path.{◌≡◌, ap, ◌∙◌}
use mathlib.Core.List.{List}
use mathlib.Core.Bool.{true, false}
use mathlib.Core.Logic.{◌⊎◌, inl, inr}
use Prim.Native.Nat.{ℕ, ◌+◌, ◌/◌, ◌≤◌, ◌<◌}
use native.Mathlib.Omega.{arith}
use native.Mathlib.Decide.{dec_le}
use lib.ListN.{length, get_or}
use Rattle.learning.specs.Walk.{Walk, stop, move, Any}
use Rattle.learning.specs.Ahead.{Window}
use Rattle.learning.specs.Ground.{Ground, Goal, net_of, ring_of, last_of, leg_of}
use Rattle.learning.specs.Stretch.{stretched_some}
use Rattle.learning.proofs.Walks.{turn, widen}
use Rattle.learning.proofs.Unique.{last_unique, ring_unique, cost_unique}
use Rattle.learning.proofs.Ground.{window}
use Rattle.learning.proofs.Look.{walk_inside}
use Rattle.learning.proofs.Same.{window_same}
use Rattle.learning.proofs.Route.{leg-high}
use Rattle.learning.proofs.Finer.{window-fine, leg_divided}
use Rattle.answers.specs.declared.Job.{Job}
use Rattle.model.specs.Floor.{Floor, size, free, price, dearest_price}
use Rattle.model.specs.Grounds.{price-free}
use Rattle.model.specs.Checks.{deepest, floor_of, goals, ground_in}
use Rattle.model.specs.Lookahead.{seen, ring, w, empty_ring, fineness, fine, fine_in}
use Rattle.model.proofs.Cells.{cells-le}
use Rattle.model.proofs.Moves.{is_true, free-below}
use Rattle.model.proofs.Rings.{empty_none, empty_of}
use Rattle.model.proofs.Accepted.{never}
use Rattle.model.proofs.Benches.{goal_means}
use Rattle.lookahead.specs.Contract.{last_base, Spent, Used, Asked, Near, fine_cost, Seen}
use Rattle.lookahead.specs.Contract as contract
use Rattle.lookahead.specs.Marks.{state, In}
use Rattle.lookahead.specs.Rings.{Framed, Blocked}
use Rattle.lookahead.specs.Costs.{at, dearest_fine, Relaxed}
use Rattle.lookahead.specs.Bests.{ring_at, coarse_at}
use Rattle.lookahead.proofs.Weighing.{ring_in_lem, in_ring}
use Rattle.lookahead.proofs.Seeing.{array_window}

module _ {j : Job} {bytes : List ℕ} {s : ℕ} (Q : Asked j bytes s) where
  abbrev f : Floor
  f = floor_of j bytes

  abbrev G : Ground
  G = ground_in j bytes

  abbrev d : ℕ
  d = j.depth

  pub start_on : s < size (floor_of j bytes)
  start_on = free-below f s Q.start

  pub not_goal : ¬ Goal (ground_in j bytes) s
  not_goal g = never (goal_means f (goals j) s g) Q.apart

  pub job-window : Window (net_of (fine_in j bytes)) (Goal (ground_in j bytes)) j.depth s (last_of (ground_in j bytes) j.depth s)
      (ring_of (ground_in j bytes) j.depth s) (fine_cost j bytes s)
  job-window = window-fine G fineness d s (omega arith) Q.shallow start_on not_goal

  few_cells : size f ≤ 4096
  few_cells = cells-le j.width j.height Q.sized.narrow Q.sized.low

  -- a cell of the window is on the floor, and its cost is small
  inside : (x : ℕ) → ring_of G d s x ≤ last_of G d s → x < size f
  inside x h = walk_inside (fine_in j bytes) start_on (turn (job-window.attained x h).1)

  pub near-cell : (x : ℕ) → Near j bytes s x → x < size (floor_of j bytes)
  unfolding ring_of last_of
  near-cell x h = inside x h

  pub near_few : (x : ℕ) → Near j bytes s x → x < 4096
  near_few x h = omega (arith, near-cell x h, few_cells)

  -- and free
  walk_free : {x c n : ℕ} → Walk (net_of (fine_in j bytes)) Any x s c n → free f x ≡ true
  walk_free (stop t) = Q.start
  walk_free (move {a = a} {b = b} t e v) = is_true (free f a) (price-free f a b (stretched_some fineness 1 (price f a b) (omega arith)))

  free-inside : (x : ℕ) → ring_of G d s x ≤ last_of G d s → free f x ≡ true
  free-inside x h = walk_free (turn (job-window.attained x h).1)

  pub near-free : (x : ℕ) → Near j bytes s x → free (floor_of j bytes) x ≡ true
  unfolding ring_of last_of
  near-free x h = free-inside x h

  low-cost : (x : ℕ) → ring_of G d s x ≤ last_of G d s → fine_cost j bytes s x ≤ dearest_fine
  low-cost x h = omega (arith, leg-high job-window (fine dearest_price) (λ a b c e. omega (arith, (fine_in j bytes).high a b)) x h, job-window.depth)

  pub near-cost : (x : ℕ) → Near j bytes s x → fine_cost j bytes s x ≤ dearest_fine
  unfolding ring_of last_of
  near-cost x h = low-cost x h

  -- w, of a fine cost
  pub near-coarse : (x : ℕ) → Near j bytes s x → fine_cost j bytes s x / fineness ≡ w j bytes (seen j bytes s) x
  unfolding ring_of last_of leg_of
  near-coarse x h = leg_divided G fineness d s (omega arith) Q.shallow start_on not_goal (omega arith) x h

  -- from a window in the lists to the model's
  module _ (base last : ℕ) (mark cost : List ℕ) (W : Window (net_of (fine_in j bytes)) (Goal (ground_in j bytes)) j.depth s last (ring_at base mark) (at cost)) where
    last_same : last ≡ last_of G d s
    last_same = last_unique W job-window

    Y : Window (net_of (fine_in j bytes)) (Goal G) d s (last_of G d s) (ring_at base mark) (at cost)
    Y = rw last_same at W

    near-mark : (x : ℕ) → ring_of G d s x ≤ last_of G d s → get_or mark x 0 ≡ base + ring_of G d s x
    near-mark x h = omega (arith, ring_unique job-window Y x h, job-window.depth)

    far-mark : (x : ℕ) → last_of G d s < ring_of G d s x → ring_at base mark x ≤ last_of G d s → ⊥
    far-mark x h l = omega (arith, ring_unique Y job-window x l)

    back : (x : ℕ) → ring_at base mark x ≤ last_of G d s → ring_of G d s x ≡ ring_at base mark x
    back x l = ring_unique Y job-window x l

    pub last_seen : last ≡ (seen j bytes s).last
    unfolding last_of
    last_seen = last_same

    pub array_seen : Spent base mark → length cost ≡ 4096 → ((x : ℕ) → get_or mark x 0 ≤ base + last) → Seen j bytes s base mark cost
    unfolding ring_of last_of leg_of
    array_seen p q top = record {
      spent = p;
      size = q;
      marks = near-mark;
      costs = λ x h. cost_unique job-window Y x h;
      none = λ x h. by x h (dec_le base (get_or mark x 0));
    }
      where
        by : (x : ℕ) → last_of G d s < ring_of G d s x → Dec (base ≤ get_or mark x 0) → get_or mark x 0 < base
        by x h (yes i) = absurd (far-mark x h (in_ring base mark x (last_of G d s) i (omega (arith, top x, last_same))))
        by x h (no i) = omega arith

    pub mark-near : (x : ℕ) → ring_at base mark x ≤ last → Near j bytes s x
    unfolding ring_of last_of
    mark-near x h = let l : ring_at base mark x ≤ last_of G d s = omega (arith, last_same) in omega (arith, back x l)

    pub near-ring : (x : ℕ) → Near j bytes s x → ring_at base mark x ≤ last
    unfolding ring_of last_of
    near-ring x h = omega (arith, ring_unique job-window Y x h, last_same)

    -- each ring up to the last has a cell
    pub array_full : ((k : ℕ) → base ≤ k → k ≤ base + last → (x : ℕ) × (get_or mark x 0 ≡ k)) → empty_ring j bytes (seen j bytes s) last ≡ false
    unfolding ring_of
    array_full full = empty_none j bytes (seen j bytes s) last ring-cell
      where
        ring-cell : (i : ℕ) → 1 ≤ i → i ≤ last → (x : ℕ) × (x < size f) × (ring_of G d s x ≡ i)
        ring-cell i a h =
            let x = full (base + i) (omega arith) (omega arith) in
            let e : ring_at base mark x.0 ≡ i = omega arith in
            let l : ring_at base mark x.0 ≤ last_of G d s = omega (arith, last_same) in
            (x.0, inside x.0 (omega (arith, back x.0 l)), back x.0 l ∙ e)

  -- the window that `look` leaves
  module _ {base last n : ℕ} {mark cost list : List ℕ} (F : Framed (floor_of j bytes) s (goals j) j.depth base last (state mark cost list n)) (room : base ≤ last_base)
      {cost' list' : List ℕ} (R : Relaxed (floor_of j bytes) base mark n cost cost' list')
    where
      W : Window (net_of (fine_in j bytes)) (Goal G) d s last (ring_at base mark) (at cost')
      W = array_window F Q.deep Q.benches R

      spent : Spent base mark
      spent = record { size = F.marked.room.sizes.marks; room = room; below = λ x. omega (arith, F.marked.top x) }

      pub looked : contract.Window j bytes s base mark cost' list' n last
      looked = record {
        view = array_seen base last mark cost' W spent R.costs.costs F.marked.top;
        room = R.listing.room;
        last_is = last_seen base last mark cost' W;
        some = F.some;
        depth = F.within;
        full = array_full base last mark cost' W F.full;
        fits = R.listing.fits;
        cells = λ i h. mark-near base last mark cost' W (get_or list' i 0) (in_ring base mark (get_or list' i 0) last (R.listing.early i h) (F.marked.top (get_or list' i 0)));
        listed = λ x h. R.listing.listed x (ring_in_lem base mark x (omega (arith, near-ring base last mark cost' W x h)));
      }

  -- number 9's case
  module _ {base r n : ℕ} {mark cost list : List ℕ} (B : Blocked (floor_of j bytes) s (goals j) j.depth base r (state mark cost list n)) (room : base ≤ last_base) where
    goal-far : (y : ℕ) → Goal G y → ring_of G d s y ≡ last_of G d s → last_of G d s ≤ r → ⊥
    goal-far y g e h =
        let (c, v) = job-window.attained y (omega arith) in
        let m = B.marked.fewest y c (ring_of G d s y) v (omega arith) in
        omega (arith, B.far y (goal_means f (goals j) y g))

    -- ring r + 1 is a ring up to the last
    below : (last_of G d s ≡ d) ⊎ ((y : ℕ) × Goal G y × (ring_of G d s y ≡ last_of G d s)) → Dec (last_of G d s ≤ r) → r < last_of G d s
    below e (no h) = omega arith
    below (inl e) (yes h) = absurd (omega arith)
    below (inr (y, g, e)) (yes h) = absurd (goal-far y g e h)

    r_below : r < last_of G d s
    r_below = below job-window.ends (dec_le (last_of G d s) r)

    -- and has no cell
    none : (x : ℕ) → x < size f → ring_of G d s x ≡ r + 1 → ⊥
    none x l e =
        let (c, v) = job-window.attained x (omega (arith, r_below)) in
        let m = B.marked.fewest x c (ring_of G d s x) v (omega arith) in
        let back = turn (widen {S' = Any} (λ y k. tt) (B.marked.walks x m.0).1) in
        omega (arith, job-window.fewest x _ _ back (omega (arith, B.empty x, r_below)), B.empty x)

    pub blocked : Used base mark cost list × (empty_ring j bytes (seen j bytes s) (seen j bytes s).last ≡ true)
    unfolding ring_of last_of
    blocked =
        let R = B.marked.room.sizes in (
          record { marks = record { size = R.marks; room = room; below = λ x. omega (arith, B.empty x) }; costs = R.costs; cells = R.cells },
          empty_of j bytes (seen j bytes s) (seen j bytes s).last (r + 1) (omega arith) (omega (arith, r_below)) none,
        )

  -- from the model's window in the lists back to `learning`'s
  module _ {base : ℕ} {mark cost : List ℕ} (E : Seen j bytes s base mark cost) where
    agree : (x : ℕ) → ring_of G d s x ≤ last_of G d s → (ring_at base mark x ≡ ring_of G d s x) × (at cost x ≡ fine_cost j bytes s x)
    unfolding ring_of last_of leg_of
    agree x h = (omega (arith, E.marks x h), E.costs x h)

    far : (x : ℕ) → last_of G d s < ring_of G d s x → last_of G d s < ring_at base mark x
    unfolding ring_of last_of
    far x h = omega (arith, E.none x h, job-window.depth)

    pub seen-window : Window (net_of (fine_in j bytes)) (Goal (ground_in j bytes)) j.depth s (last_of (ground_in j bytes) j.depth s) (ring_at base mark) (at cost)
    seen-window = window_same (ring_at base mark) (at cost) job-window agree far

    -- and at coarse costs
    coarsely : (x : ℕ) → ring_of G d s x ≤ last_of G d s → (ring_at base mark x ≡ ring_of G d s x) × (coarse_at cost x ≡ leg_of G d s x)
    unfolding ring_of last_of leg_of
    coarsely x h = ((agree x h).0, ap (λ c. c / fineness) (E.costs x h) ∙ near-coarse x h)

    pub seen-coarse : Window (net_of (ground_in j bytes)) (Goal (ground_in j bytes)) j.depth s (last_of (ground_in j bytes) j.depth s) (ring_at base mark) (coarse_at cost)
    seen-coarse = window_same (ring_at base mark) (coarse_at cost) (window G d s start_on Q.shallow not_goal) coarsely far

    -- a marked cell is in the window, and its mark is a ring's up to the deepest
    pub near_of : (x : ℕ) → In base mark x → Near j bytes s x
    near_of x i = by (dec_le (ring j bytes (seen j bytes s) x) (seen j bytes s).last)
      where
        by : Dec (Near j bytes s x) → Near j bytes s x
        by (yes h) = h
        by (no h) = absurd (omega (arith, E.none x (omega arith)))

    low : (x : ℕ) → last_of G d s < ring_of G d s x → get_or mark x 0 ≤ base + deepest
    unfolding ring_of last_of
    low x h = omega (arith, E.none x h)

    pub near-high : (x : ℕ) → get_or mark x 0 ≤ base + deepest
    near-high x = by (dec_le (ring_of G d s x) (last_of G d s))
      where
        by : Dec (ring_of G d s x ≤ last_of G d s) → get_or mark x 0 ≤ base + deepest
        by (yes h) = omega (arith, (agree x h).0, job-window.depth)
        by (no h) = low x (omega arith)
