-- The functions give the promised new figure and target.
use Prim.Native.Nat.{ℕ, zero, suc, ◌+◌, ◌*◌, ◌≤◌, ◌<◌, max}
use mathlib.Core.Path.{◌≡◌, sym, ◌∙◌, subst}
use mathlib.Core.Bool.{Bool, ◌&&◌}
use mathlib.Core.List.{List}
use native.Mathlib.Nat.{le_refl}
use native.Mathlib.Decide.{dec_le}
use native.Mathlib.Omega.{arith}
use lib.Dec.{T, eqb, eqb→eq, eqb_refl}
use Rattle.learning.specs.Walk.{Walk, stop, move, Least, Reaches}
use Rattle.learning.specs.Ahead.{Ahead, OnRing}
use Rattle.learning.specs.Path.{most}
use Rattle.learning.specs.Trial.{LooksAhead, figure}
use Rattle.learning.specs.Ground.{Ground, Goal, net_of, pick, ring_of, last_of, leg_of, job_of}
use Rattle.learning.specs.Look.{lowest, value, best_on, new_over, target_over, new_in, target_in, new_of, target_of}
use Rattle.learning.proofs.Walks.{turn}
use Rattle.learning.proofs.Sums.{most_high}
use Rattle.learning.proofs.Spread.{over_low, over_met, pick_true, pick_first, both_true, first_true, second-true}
use Rattle.learning.proofs.Ground.{lawful, window, on_floor}
use Rattle.learning.proofs.Never.{ring-met}

-- the greatest of several numbers is one of them
most_met : (n : ℕ) (f : ℕ → ℕ) → (i : ℕ) × (i < suc n) × (f i ≡ most (suc n) f)
most_met zero f = (0, omega arith, omega arith)
most_met (suc n) f = go (most_met n f) (dec_le (most (suc n) f) (f (suc n)))
  where
    go : (i : ℕ) × (i < suc n) × (f i ≡ most (suc n) f) → Dec (most (suc n) f ≤ f (suc n)) → (i : ℕ) × (i < suc (suc n)) × (f i ≡ max (most (suc n) f) (f (suc n)))
    go (i, l, e) (yes h) = (suc n, omega arith, omega arith)
    go (i, l, e) (no h) = (i, omega arith, omega arith)

pub eqb_of : (a b : ℕ) → a ≡ b → T (eqb a b)
eqb_of a b e = subst (λ c. T (eqb a c)) e (eqb_refl a)

pub lowest-low : (n : ℕ) (test : ℕ → Bool) (x : ℕ) → x < n → T (test x) → lowest n test ≤ x
lowest-low n test x h t = omega (arith, over_low n n (λ y. pick (test y) y n) x h, pick_true (test x) x n t)

pub lowest_some : (n : ℕ) (test : ℕ → Bool) → lowest n test < n → T (test (lowest n test))
lowest_some n test h =
    let (i, l, e) = over_met n n (λ y. pick (test y) y n) h in
    let (u, f) = pick_first (test i) i n (omega (arith, e, h)) in
    subst (λ y. T (test y)) (sym (e ∙ f)) u

pub lowest-met : (n : ℕ) (test : ℕ → Bool) (x : ℕ) → x < n → T (test x) → T (test (lowest n test))
lowest-met n test x h t = lowest_some n test (omega (arith, lowest-low n test x h t))

module _ (n p m : ℕ) (ring cost fig : ℕ → ℕ) (inside : (x : ℕ) → ring x ≤ m → x < n) (met : (k : ℕ) → k ≤ m → (x : ℕ) × (ring x ≡ k)) where
  best-low : (k x : ℕ) → k ≤ m → ring x ≡ k → best_on n p ring cost fig k ≤ p * cost x + fig x
  unfolding best_on
  best-low k x h e =
      let top = suc (most n (value n p ring cost fig)) in
      omega (
        arith,
        over_low top n (λ y. pick (eqb (ring y) k) (value n p ring cost fig y) top) x (inside x (omega arith)),
        pick_true (eqb (ring x) k) (p * cost x + fig x) top (eqb_of (ring x) k e),
      )

  best-met : (k : ℕ) → k ≤ m → OnRing p ring cost fig k (best_on n p ring cost fig k)
  unfolding best_on
  best-met k h =
      let top = suc (most n (value n p ring cost fig)) in
      let (x, e) = met k h in
      let less : best_on n p ring cost fig k < top = omega (arith, best-low k x h e, most_high n x (value n p ring cost fig) (inside x (omega arith))) in
      let (y, l, f) = over_met top n (λ y. pick (eqb (ring y) k) (value n p ring cost fig y) top) less in
      let (t, g) = pick_first (eqb (ring y) k) (p * cost y + fig y) top (omega (arith, f, less)) in
      (y, eqb→eq (ring y) k t, sym (f ∙ g))

  best-least : (k : ℕ) → k ≤ m → Least (OnRing p ring cost fig k) (best_on n p ring cost fig k)
  best-least k h = record { met = best-met k h; low = λ u (x, e, f). omega (arith, best-low k x h e) }

  -- the test that the target passes
  abbrev on : ℕ → Bool
  on x = eqb (ring x) m

  abbrev has : ℕ → Bool
  has x = eqb (p * cost x + fig x) (best_on n p ring cost fig m)

  abbrev chosen : ℕ → Bool
  chosen x = on x && has x

  chosen_of : (x : ℕ) → ring x ≡ m → p * cost x + fig x ≡ best_on n p ring cost fig m → T (chosen x)
  chosen_of x e f = both_true (on x) (has x) (eqb_of (ring x) m e) (eqb_of (p * cost x + fig x) (best_on n p ring cost fig m) f)

  found : T (chosen (target_over n p ring cost fig m))
  unfolding target_over
  found =
      let (x, e, f) = best-met m (le_refl m) in
      lowest-met n chosen x (inside x (omega arith)) (chosen_of x e f)

  high : (u : ℕ) → (k : ℕ) × (1 ≤ k) × (k ≤ m) × (best_on n p ring cost fig k ≡ u) → u ≤ new_over n p ring cost fig m
  unfolding new_over
  high u (zero, l, h, e) = absurd (omega arith)
  high u (suc k, l, h, e) = omega (arith, most_high m k (λ i. best_on n p ring cost fig (suc i)) h)

  attained : 1 ≤ m → (k : ℕ) × (1 ≤ k) × (k ≤ m) × (best_on n p ring cost fig k ≡ new_over n p ring cost fig m)
  unfolding new_over
  attained = go m
    where
      go : (j : ℕ) → 1 ≤ j → (k : ℕ) × (1 ≤ k) × (k ≤ j) × (best_on n p ring cost fig k ≡ most j (λ i. best_on n p ring cost fig (suc i)))
      go zero h = absurd (omega arith)
      go (suc j) h =
          let (i, l, e) = most_met j (λ i. best_on n p ring cost fig (suc i)) in
          (suc i, omega arith, l, e)

  pub looks : 1 ≤ m → Ahead p m ring cost fig (new_over n p ring cost fig m) (target_over n p ring cost fig m)
  unfolding target_over
  looks some =
      let t = target_over n p ring cost fig m in record {
        best = best_on n p ring cost fig;
        bests = λ k l h. best-least k h;
        greatest = record { met = attained some; high = high };
        on_last = eqb→eq (ring t) m (first_true (on t) (has t) found);
        chosen = eqb→eq (p * cost t + fig t) (best_on n p ring cost fig m) (second-true (on t) (has t) found);
        lowest = λ x e f. lowest-low n chosen x (inside x (omega arith)) (chosen_of x e f);
      }

-- on a ground: a walk that ends on the floor begins there
pub walk_inside : (G : Ground) {S : ℕ → Type 0} {a z c n : ℕ} → z < G.cells → Walk (net_of G) S a z c n → a < G.cells
walk_inside G h (stop s) = h
walk_inside G h (move {a = a} {b = b} s e w) = G.inside a b (omega (arith, e.0, e.1))

module _ (G : Ground) (depth p q quota : ℕ) (deep : 1 ≤ depth) where
  -- where no ring is empty
  pub answer_if : (s : ℕ) (table : List ℕ) → s < G.cells → ¬ Goal G s → ((k : ℕ) → k ≤ last_of G depth s → (x : ℕ) × (ring_of G depth s x ≡ k))
      → LooksAhead (job_of G depth p q quota) s table (new_of G depth p s table) (target_of G depth p s table)
  unfolding new_in target_in ring_of last_of leg_of
  answer_if s table h g full =
      let W = window G depth s h deep g in
      looks G.cells p (last_of G depth s) (ring_of G depth s) (leg_of G depth s) (figure table) (λ x l. walk_inside G h (turn (W.attained x l).1)) full W.some

  -- where a goal can be reached
  pub answer : 1 ≤ p → p ≤ q → (s : ℕ) (table : List ℕ) → ¬ Goal G s → Reaches (net_of G) (Goal G) s
      → LooksAhead (job_of G depth p q quota) s table (new_of G depth p s table) (target_of G depth p s table)
  answer low weight s table g r = answer_if s table (on_floor G s r) g (ring-met (lawful G depth p q quota deep low weight) s g r)
