-- The lowest cell before another: the first that a move leads to, the moves to the lowest cells being tried first.
-- Assumes nothing.
use Rattle.std.specs.Prelude.{Some, None}
use mathlib.Core.Path.{◌≡◌, ap, sym, ◌∙◌}
use mathlib.Core.List.{List}
use Prim.Native.Nat.{ℕ, ◌+◌, ◌≤◌, ◌<◌}
use native.Mathlib.Decide.{dec_le}
use native.Mathlib.Omega.{arith}
use borrow.Author.Count.{below_more}
use lib.ListN.{get_or}
use Rattle.model.specs.Floor.{Floor, Sized, price, opposite}
use Rattle.model.specs.Grounds.{price_same}
use Rattle.model.specs.Lookahead.{fine}
use Rattle.model.proofs.Moves.{opposite-lt}
use Rattle.floor.specs.Moves.{to, step_of}
use Rattle.floor.proofs.Steps.{step-heading, price-step, wall≢to, same_to}
use Rattle.lookahead.specs.declared.Link.{Link}
use Rattle.lookahead.specs.Marks.{In}
use Rattle.lookahead.specs.Costs.{at}
use Rattle.lookahead.specs.Way.{rising_move, Before, Led, Unled, Prior}
use Rattle.lookahead.proofs.Grow.{Moved, price-back}
use Rattle.lookahead.proofs.Rising.{rising_all, rising_higher}

module _ {f : Floor} {base : ℕ} {mark cost : List ℕ} {x : ℕ} where
  -- ---- one move

  pub led_wall : (j : ℕ) → step_of f x j ≡ None → Led f base mark cost x j None
  led_wall j w y v t = absurd (wall≢to y v (sym w ∙ t))

  module _ {j y v : ℕ} (M : Moved f x j y v) where
    pub led_out : get_or mark y 0 < base → Led f base mark cost x j None
    led_out h y' v' t B = omega (arith, rw (same_to (sym M.step ∙ t)).0 at h)

    -- by what the move adds
    pub led_slack : {a : ℕ} → a ≡ fine v → (at cost y + a ≡ at cost x → ⊥) → Led f base mark cost x j None
    led_slack adds n y' v' t B =
        let here = rw (sym (same_to (sym M.step ∙ t)).0) at B in
        n (omega (arith, (price-back M).1))

  pub led_new : {j y v a : ℕ} → Sized f → j < 8 → Moved f x j y v → In base mark y → a ≡ fine v → at cost y + a ≡ at cost x
      → Led f base mark cost x j (Some (record { cell = y; m = opposite j }))
  led_new {j} {y} {v} z l M i adds t =
      let (some, same) = price-back M in (
        record {
          before = record { inside = i; move = omega arith; exact = omega arith };
          heading = step-heading f z x j y v l M.step;
          one = opposite-lt j l;
        },
        (v, M.step),
      )

  -- ---- one after another

  pub unled_none : Unled f base mark cost x 0
  unled_none = record { within = omega arith; none = λ k l. absurd (omega arith) }

  module _ {i j : ℕ} (few : i < 8) (U : Unled f base mark cost x i) (e : j ≡ rising_move i) where
    pub unled_more : Led f base mark cost x j None → Unled f base mark cost x (i + 1)
    unled_more led = record {
      within = omega arith;
      none = below_more _ i U.none (rw e at led);
    }

    -- the first that is found is the lowest
    pub led-prior : {b : Link} → Sized f → Led f base mark cost x j (Some b) → Prior f base mark cost x b
    led-prior {b} z led = record { from = led.0; lowest = lowest }
      where
        lowest : (y : ℕ) → Before f base mark cost x y → b.cell ≤ y
        lowest y B = by (dec_le i k) (dec_le k i)
          where
            step : (m : ℕ) × (m < 8) × (step_of f x m ≡ to y (price f x y))
            step = price-step f z x y (omega (arith, price_same f x y))

            found : (k : ℕ) × (k < 8) × (rising_move k ≡ step.0)
            found = rising_all step.0 step.1

            k : ℕ
            k = found.0

            there : step_of f x (rising_move k) ≡ to y (price f x y)
            there = ap (step_of f x) found.2 ∙ step.2

            by : Dec (i ≤ k) → Dec (k ≤ i) → b.cell ≤ y
            by (no n) t = absurd (U.none k (omega arith) y (price f x y) there B)
            by (yes l) (no n) = let (v, s) = rw e at led.1 in omega (arith, rising_higher f z x i k (omega arith) found.1 b.cell v y (price f x y) s there)
            by (yes l) (yes g) =
                let (v, s) = rw e at led.1 in
                let e : i ≡ k = omega arith in
                omega (arith, (same_to (sym s ∙ ap (λ n. step_of f x (rising_move n)) e ∙ there)).0)

  -- and some move leads to a cell before x, if there is one
  pub unled_all : {i : ℕ} → Sized f → 8 ≤ i → Unled f base mark cost x i → (y : ℕ) → Before f base mark cost x y → ⊥
  unled_all z h U y B =
      let (m, l, s) = price-step f z x y (omega (arith, price_same f x y)) in
      let (k, few, e) = rising_all m l in
      U.none k (omega arith) y (price f x y) (ap (step_of f x) e ∙ s) B
