-- A window, by other names for its rings and costs: two that agree inside the window are one window.
-- Assumes nothing.
use Prim.Native.Nat.{ℕ, ◌≤◌, ◌<◌}
use mathlib.Core.Path.{◌≡◌, refl, sym, ◌∙◌, subst}
use mathlib.Core.Logic.{◌⊎◌, inl, inr}
use native.Mathlib.Decide.{dec_le}
use native.Mathlib.Omega.{arith}
use Rattle.learning.specs.Walk.{Network, Least, Leads}
use Rattle.learning.specs.Ahead.{Window}
use Rattle.learning.proofs.Walks.{restate, widen, least_same}

module _ {N : Network} {Goal : ℕ → Type 0} {d s m : ℕ} {ring cost : ℕ → ℕ} (ring' cost' : ℕ → ℕ) (W : Window N Goal d s m ring cost)
    (same : (x : ℕ) → ring x ≤ m → (ring' x ≡ ring x) × (cost' x ≡ cost x)) (far : (x : ℕ) → m < ring x → m < ring' x)
  where
    near : (x : ℕ) → ring' x ≤ m → ring x ≤ m
    near x h = by (dec_le (ring x) m)
      where
        by : Dec (ring x ≤ m) → ring x ≤ m
        by (yes k) = k
        by (no k) = absurd (omega (arith, h, far x (omega (arith, k))))

    goal-far : (z : ℕ) → Goal z → Dec (ring z ≤ m) → m ≤ ring' z
    goal-far z g (yes k) = omega (arith, W.goals z g, (same z k).0)
    goal-far z g (no k) = omega (arith, far z (omega (arith, k)))

    ends : (m ≡ d) ⊎ ((z : ℕ) × Goal z × (ring z ≡ m)) → (m ≡ d) ⊎ ((z : ℕ) × Goal z × (ring' z ≡ m))
    ends (inl e) = inl e
    ends (inr (z, g, e)) = inr (z, g, (same z (omega (arith, e))).0 ∙ e)

    pub window_same : Window N Goal d s m ring' cost'
    window_same = record {
      some = W.some;
      depth = W.depth;
      attained = λ x h. let w = W.attained x (near x h) in (w.0, restate refl (sym (same x (near x h)).0) w.1);
      fewest = λ x c n w h. let l = W.fewest x c n w h in omega (arith, l, (same x (omega (arith, l, h))).0);
      goals = λ z g. goal-far z g (dec_le (ring z) m);
      ends = ends W.ends;
      cheapest = λ x h. subst (Least (Leads N (λ y. ring' y ≤ m) s x)) (sym (same x (near x h)).1)
          (least_same (λ u w. (w.0, widen (λ y k. omega (arith, k, (same y k).0)) w.1)) (λ u w. (w.0, widen near w.1)) (W.cheapest x (near x h)));
    }
