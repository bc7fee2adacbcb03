-- The job on a ground is lawful: the functions of a ground have the promised properties, so every theorem holds of it.
use Prim.Native.Nat.{ℕ, suc, ◌+◌, ◌*◌, ◌≤◌, ◌<◌}
use mathlib.Core.Path.{◌≡◌, refl, sym, ◌∙◌, subst}
use mathlib.Core.Bool.{Bool, true, false}
use mathlib.Core.Logic.{◌⊎◌, inl, inr}
use native.Mathlib.Nat.{le_trans, eq-or-lt_of_le, eq-zero-or-pos, mul-le-mul_left}
use native.Mathlib.Omega.{arith}
use lib.Dec.{T, eqb, leb, eqb→eq, eqb_refl, leb→le, le→leb}
use lib.ListN.{get_or}
use Rattle.learning.specs.Walk.{Network, Walk, stop, move, Any, Least, Leads, Arrives, ArrivesIn, Reaches}
use Rattle.learning.specs.Ahead.{Window}
use Rattle.learning.specs.Trial.{Lawful}
use Rattle.learning.specs.Ground.{Ground, Goal, net_of, unit_of, pick, far, spread, everywhere, dists_of, view_of, reach_of, ring_of, last_of, leg_of, dist_of, job_of}
use Rattle.learning.proofs.Walks.{within-rings, restate, turn, widen, least_same}
use Rattle.learning.proofs.Spread.{over_top, over_low, over_met, pick_true, pick_first, spread-least, spread-met, arr-inside}

-- a walk of no moves stays
stays : {N : Network} {S : ℕ → Type 0} {a z c n : ℕ} → Walk N S a z c n → n ≡ 0 → a ≡ z
stays (stop s) e = refl
stays (move s f w) e = absurd (omega arith)

-- walks on the ground where every move costs 1
to_unit : (G : Ground) {a z c n : ℕ} → Walk (net_of G) Any a z c n → Walk (net_of (unit_of G)) Any a z n n
to_unit G (stop s) = stop s
to_unit G (move {n = n} s e w) = restate (omega arith) refl (move {c = 1} s (omega arith, omega (arith, e.0, e.1)) (to_unit G w))

from_unit : (G : Ground) {a z c n : ℕ} → Walk (net_of (unit_of G)) Any a z c n → ((d : ℕ) × Walk (net_of G) Any a z d n) × (c ≡ n)
from_unit G (stop s) = ((0, stop s), refl)
from_unit G (move {a = a} {b = b} s e w) =
    let ((d, v), f) = from_unit G w in
    let some : 1 ≤ G.price a b = omega (arith, e.0, e.1) in
    ((G.price a b + d, move s (some, refl) v), omega (arith, e.0, e.1))

module _ (G : Ground) where
  pub on_floor : (x : ℕ) → Reaches (net_of G) (Goal G) x → x < G.cells
  on_floor x (c, a) = arr-inside G everywhere G.goal G.goals-inside x c a

  -- the true distance is the least cost of a walk
  pub dist-least : (x : ℕ) → Reaches (net_of G) (Goal G) x → Least (Arrives (net_of G) (Goal G) x) (dist_of G x)
  unfolding dist_of dists_of
  dist-least x (c, a) =
      let (l, h) = spread-least G everywhere G.goal G.goals-inside x c a in
      let v = get_or (spread G everywhere G.goal) x (far G) in
      let near : v ≤ G.dearest * G.cells = le_trans h (mul-le-mul_left G.dearest (omega arith)) in
      subst (Least (Arrives (net_of G) (Goal G) x)) (sym (pick_true (leb v (G.dearest * G.cells)) v 0 (le→leb v (G.dearest * G.cells) near))) l

  dist_none : (x : ℕ) → ¬ Reaches (net_of G) (Goal G) x → dist_of G x ≡ 0
  unfolding dist_of dists_of
  dist_none x h = go (leb (get_or (spread G everywhere G.goal) x (far G)) (G.dearest * G.cells)) (λ t. leb→le _ _ t)
    where
      go : (b : Bool) → (T b → get_or (spread G everywhere G.goal) x (far G) ≤ G.dearest * G.cells) → pick b (get_or (spread G everywhere G.goal) x (far G)) 0 ≡ 0
      go true f = absurd (h (_, spread-met G everywhere G.goal G.goals-inside x (omega (arith, f tt))))
      go false f = refl

  -- whether a goal can be reached
  pub reach_of_lem : (x : ℕ) → Reaches (net_of G) (Goal G) x → T (reach_of G x)
  unfolding reach_of dists_of
  reach_of_lem x (c, a) =
      let h = (spread-least G everywhere G.goal G.goals-inside x c a).1 in
      le→leb _ (G.dearest * G.cells) (le_trans h (mul-le-mul_left G.dearest (omega arith)))

  pub reach-true : (x : ℕ) → T (reach_of G x) → Reaches (net_of G) (Goal G) x
  unfolding reach_of dists_of
  reach-true x t =
      let h = leb→le (get_or (spread G everywhere G.goal) x (far G)) (G.dearest * G.cells) t in
      (_, spread-met G everywhere G.goal G.goals-inside x (omega (arith, h)))

  module _ (d s : ℕ) (floor : s < G.cells) where
    starts : (x : ℕ) → T (eqb x s) → x < G.cells
    starts x t = omega (arith, eqb→eq x s t)

    -- rings
    near-row : (x : ℕ) → ℕ
    near-row x = get_or (spread (unit_of G) everywhere (λ y. eqb y s)) x (far (unit_of G))

    pub ring-low : (x c n : ℕ) → Walk (net_of G) Any s x c n → ring_of G d s x ≤ n
    unfolding ring_of view_of near-row
    ring-low x c n w =
        let a : ArrivesIn (net_of (unit_of G)) Any (λ y. T (eqb y s)) x n = (s, eqb_refl s, (n, to_unit G (turn w))) in
        let (l, h) = spread-least (unit_of G) everywhere (λ y. eqb y s) starts x n a in
        let few : near-row x ≤ G.cells = omega (arith, h) in
        omega (arith, l.low n a, pick_true (leb (near-row x) G.cells) (near-row x) (suc d) (le→leb (near-row x) G.cells few))

    pub ring_walk : (x : ℕ) → ring_of G d s x ≤ d → (c : ℕ) × Walk (net_of G) Any s x c (ring_of G d s x)
    unfolding ring_of view_of near-row
    ring_walk x h =
        let (t, f) = pick_first (leb (near-row x) G.cells) (near-row x) (suc d) (omega (arith, h)) in
        let (z, u, (n, w)) = spread-met (unit_of G) everywhere (λ y. eqb y s) starts x (omega (arith, leb→le (near-row x) G.cells t)) in
        let ((c, v), e) = from_unit G w in
        (c, subst (λ y. Walk (net_of G) Any y x c (ring_of G d s x)) (eqb→eq z s u) (turn (restate refl (sym e ∙ sym f) v)))

    -- the last ring
    last_high : last_of G d s ≤ d
    unfolding last_of ring_of view_of
    last_high = over_top d G.cells _

    last_low : (z : ℕ) → Goal G z → last_of G d s ≤ ring_of G d s z
    unfolding last_of ring_of view_of
    last_low z g =
        omega (arith, over_low d G.cells (λ y. pick (G.goal y) (ring_of G d s y) d) z (G.goals-inside z g), pick_true (G.goal z) (ring_of G d s z) d g)

    last_goal : last_of G d s < d → (z : ℕ) × Goal G z × (ring_of G d s z ≡ last_of G d s)
    unfolding last_of ring_of view_of
    last_goal h =
        let (z, l, e) = over_met d G.cells (λ y. pick (G.goal y) (ring_of G d s y) d) h in
        let (g, f) = pick_first (G.goal z) (ring_of G d s z) d (omega (arith, e)) in
        (z, g, sym (e ∙ f))

    leg-least : (x : ℕ) → ring_of G d s x ≤ last_of G d s → Least (Leads (net_of G) (λ y. ring_of G d s y ≤ last_of G d s) s x) (leg_of G d s x)
    unfolding leg_of ring_of last_of view_of
    leg-least x h =
        let (c, w) = ring_walk x (omega (arith, last_high)) in
        let v = within-rings {m = last_of G d s} (ring_of G d s) (λ y e k u l. ring-low y e k u) 0 0 (stop tt) (omega arith) w in
        least_same away back (spread-least G field (λ y. eqb y s) starts x c (back c (_, v))).0
      where
        field : ℕ → Bool
        field y = leb (ring_of G d s y) (last_of G d s)

        away : (u : ℕ) → (z : ℕ) × T (eqb z s) × Leads (net_of G) (λ y. T (leb (ring_of G d s y) (last_of G d s))) x z u → Leads (net_of G) (λ y. ring_of G d s y ≤ last_of G d s) s x u
        away u (z, t, (n, w)) =
            (n, subst (λ y. Walk (net_of G) (λ y. ring_of G d s y ≤ last_of G d s) y x u n) (eqb→eq z s t) (turn (widen (λ y k. leb→le (ring_of G d s y) (last_of G d s) k) w)))

        back : (u : ℕ) → Leads (net_of G) (λ y. ring_of G d s y ≤ last_of G d s) s x u → (z : ℕ) × T (eqb z s) × Leads (net_of G) (λ y. T (leb (ring_of G d s y) (last_of G d s))) x z u
        back u (n, w) = (s, eqb_refl s, (n, turn (widen (λ y k. le→leb (ring_of G d s y) (last_of G d s) k) w)))

    pub window : 1 ≤ d → ¬ Goal G s → Window (net_of G) (Goal G) d s (last_of G d s) (ring_of G d s) (leg_of G d s)
    window deep g = record {
      some = first (eq-zero-or-pos (last_of G d s));
      depth = last_high;
      attained = λ x h. ring_walk x (omega (arith, last_high));
      fewest = λ x c n w h. ring-low x c n w;
      goals = last_low;
      ends = end (eq-or-lt_of_le last_high);
      cheapest = leg-least;
    }
      where
        first : (last_of G d s ≡ 0) ⊎ (0 < last_of G d s) → 1 ≤ last_of G d s
        first (inl e) =
            let (z, gz, f) = last_goal (omega arith) in
            absurd (g (subst (Goal G) (sym (stays (ring_walk z (omega (arith, last_high))).1 (f ∙ e))) gz))
        first (inr h) = h

        end : (last_of G d s ≡ d) ⊎ (last_of G d s < d) → (last_of G d s ≡ d) ⊎ ((z : ℕ) × Goal G z × (ring_of G d s z ≡ last_of G d s))
        end (inl e) = inl e
        end (inr h) = inr (last_goal h)

  pub lawful : (depth p q quota : ℕ) → 1 ≤ depth → 1 ≤ p → p ≤ q → Lawful (job_of G depth p q quota)
  lawful depth p q quota deep low high = record {
    weight-low = low;
    weight-high = high;
    on_floor = on_floor;
    true-dist = dist-least;
    no_dist = dist_none;
    windows = λ s g r. window depth s (on_floor s r) deep g;
  }
