-- From the marked rings and the relaxed costs to `learning`'s window, with the rings that the marks say and the costs in the list.
-- Assumes nothing.
use mathlib.Core.Path.{◌≡◌, refl}
use mathlib.Core.List.{List}
use mathlib.Core.Bool.{true}
use mathlib.Core.Logic.{◌⊎◌, inl, inr, ⊎_elim}
use Prim.Native.Nat.{ℕ, ◌+◌, ◌≤◌}
use native.Mathlib.Omega.{arith}
use native.Mathlib.Decide.{dec_le}
use Rattle.learning.specs.Walk.{stop, Least, Leads}
use Rattle.learning.specs.Ahead.{Window}
use Rattle.learning.specs.Ground.{Goal}
use Rattle.learning.proofs.Walks.{restate, turn, widen, least_same}
use Rattle.model.specs.Basics.{member}
use Rattle.model.specs.Floor.{Floor, size}
use Rattle.model.specs.Checks.{deepest, Benched}
use Rattle.model.specs.Grounds.{ground_of}
use Rattle.model.proofs.Lists.{member-place}
use Rattle.model.proofs.Benches.{goal_means, goal_is}
use Rattle.lookahead.specs.Marks.{net, State, mark_of, cost_at, In}
use Rattle.lookahead.specs.Rings.{Framed}
use Rattle.lookahead.specs.Costs.{Costs, at, Listing, Noted, Relaxed}
use Rattle.lookahead.specs.Bests.{ring_at}
use Rattle.lookahead.proofs.Weighing.{ring_in_lem, in_ring, ring_is}

-- what the relaxation takes
module _ {f : Floor} {s : ℕ} {gs : List ℕ} {depth base last : ℕ} {S : State} (F : Framed f s gs depth base last S) (deep : depth ≤ deepest) where
  pub framed_costs : Costs f base S.mark S.cost
  framed_costs =
      let R = F.marked.room in record {
        sized = R.sized;
        marks = R.sizes.marks;
        costs = R.sizes.costs;
        free = R.free;
        small = λ x p. omega (arith, R.cheap x p, F.marked.top x);
      }

  pub framed_listing : Listing base S.mark S.list S.n
  framed_listing = record {
    room = F.marked.room.sizes.cells;
    fits = omega arith;
    early = F.marked.early;
    listed = F.marked.listed;
  }

  -- where no note stands, the place has more than any cost
  pub framed_noted : Noted f base S.mark S.list S.n S.cost
  framed_noted i l m lm d v e t =
      ⊎_elim (λ q. omega (arith, framed_costs.small d t)) (λ q. q.1) (F.marked.room.notes i l m d v lm e)

  start : cost_at S s ≡ 0
  start = let m = F.marked.fewest s 0 0 (stop tt) (omega arith) in omega (arith, F.marked.room.cheap s m.0)

  -- the window
  module _ (benches : Benched (size f) gs) {cost list : List ℕ} (R : Relaxed f base S.mark S.n S.cost cost list) where
    abbrev ring : ℕ → ℕ
    ring = ring_at base S.mark

    inner : (x : ℕ) → ring x ≤ last → In base S.mark x
    inner x h = ring_in_lem base S.mark x (omega arith)

    outer : (x : ℕ) → In base S.mark x → ring x ≤ last
    outer x p = in_ring base S.mark x last p (F.marked.top x)

    -- a ring up to last, by its mark
    by_mark : (x : ℕ) → mark_of S x ≡ base + last → ring x ≡ last
    by_mark x e = omega arith

    goal-ring : (g : ℕ) → member g gs ≡ true → Dec (base ≤ mark_of S g) → last ≤ ring g
    goal-ring g m (yes p) = omega (arith, by_mark g (F.nearer g m p))
    goal-ring g m (no p) = omega arith

    -- a goal of the list is one of the ground
    on_ground : (g : ℕ) → member g gs ≡ true → Goal (ground_of f gs) g
    on_ground g m = let (k, l, e) = member-place g gs m in goal_is f gs g (omega (arith, benches.on k l)) m

    ends : (last ≡ depth) ⊎ ((g : ℕ) × (member g gs ≡ true) × (mark_of S g ≡ base + last)) → (last ≡ depth) ⊎ ((y : ℕ) × Goal (ground_of f gs) y × (ring y ≡ last))
    ends (inl e) = inl e
    ends (inr (g, m, e)) = inr (g, on_ground g m, by_mark g e)

    least : (x : ℕ) → In base S.mark x → Least (Leads (net f) (In base S.mark) x s) (at cost x)
    least = R.least s F.marked.costs start

    pub array_window : Window (net f) (Goal (ground_of f gs)) depth s last (ring_at base S.mark) (at cost)
    array_window = record {
      some = F.some;
      depth = F.within;
      attained = λ x h.
          let p = inner x h in
          let g = F.marked.walks x p in
          (g.0, restate refl (ring_is base S.mark x p) (turn (widen (λ y k. tt) g.1)));
      fewest = λ x c n w h. let m = F.marked.fewest x c n w h in in_ring base S.mark x n m.0 m.1;
      goals = λ y g. goal-ring y (goal_means f gs y g) (dec_le base (mark_of S y));
      ends = ends F.ends;
      cheapest = λ x h. least_same (λ u w. (w.0, turn (widen outer w.1))) (λ u w. (w.0, turn (widen inner w.1))) (least x (inner x h));
    }
