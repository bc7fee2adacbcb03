-- What a step says of the model's price, and that each price is a step's. Code above knows `step_of` by these laws alone.
-- Assumes nothing.
use mathlib.Core.Path.{◌≡◌, refl, sym, ap, ◌∙◌, subst}
use mathlib.Core.Bool.{Bool, true, false, not, ◌||◌}
use mathlib.Core.List.{List}
use Prim.Native.Nat.{ℕ, zero, suc, ◌+◌, ◌%◌, ◌≤◌, ◌<◌}
use native.Mathlib.Decide.{dec_le, ℕ_discrete}
use native.Mathlib.Omega.{arith}
use borrow.Author.Count.{below_more}
use borrow.Author.Tests.{eq-eqb, ne_eqb, eqb-true, not-true, not-false}
use lib.Dec.{eqb}
use lib.ListN.{length, get_or, get_or-eq_default}
use Rattle.std.specs.Prelude.{Option, Some, None}
use Rattle.model.specs.Basics.{choose, member}
use Rattle.model.specs.Floor as model
use Rattle.model.specs.Floor.{Floor, Sized, slow_byte, free, doubled, slowly, least_price, dearest_price, price, ahead, allowed, heading, opposite}
use Rattle.model.specs.Grounds.{price-low, price-high}
use Rattle.model.proofs.Lists.{member_at, no_member}
use Rattle.model.proofs.Meaning.{price_means}
use Rattle.model.proofs.Moves.{toll, all8, price-toll, allowed-inside, allowed_some, allowed-free, free_few, opposite-ahead, opposite-allowed, opposite-lt, price-move, heading_is}
use Rattle.floor.specs.declared.Step.{Step}
use Rattle.floor.specs.Moves.{all_kinds, kinds, cost, can_cost, Counted, plain, slow, to, step_of}

-- a negated test that the code made, of what the model says
pub not_so : {r b : Bool} → r ≡ b → not r ≡ true → b ≡ false
not_so e t = sym e ∙ not-true _ t

pub is_so : {r b : Bool} → r ≡ b → not r ≡ false → b ≡ true
is_so e t = sym e ∙ not-false _ t

pub wall≢to : (d v : ℕ) → ◌≡◌ {A = Option Step} None (to d v) → ⊥
wall≢to d v e = let z : ◌≡◌ {A = ℕ} 0 1 = cc in omega arith

same_step : {r s : Step} → ◌≡◌ {A = Option Step} (Some r) (Some s) → r ≡ s
same_step e = cc

pub same_to : {a b v u : ℕ} → to a v ≡ to b u → (a ≡ b) × (v ≡ u)
same_to e = let s = same_step e in (ap (λ k. k.cell) s, ap (λ k. k.cost) s)

chosen : (t : Bool) (a v d u : ℕ) → choose t (to a v) None ≡ to d u → (t ≡ true) × (a ≡ d) × (v ≡ u)
chosen true a v d u e = let s = same_to e in (refl, s.0, s.1)
chosen false a v d u e = absurd (wall≢to d u e)

-- what a step to d at cost v says
pub record Stepped (f : Floor) (x m d v : ℕ) : Type 0 where
  pub allowed : allowed f x m ≡ true
  pub cell : ahead f x m ≡ d
  pub price : price f x d ≡ v
  pub least : least_price ≤ v
  pub most : v ≤ dearest_price
  pub free : free f d ≡ true
  pub few : d < 4096

module _ (f : Floor) (z : Sized f) (x m d v : ℕ) where
  pub stepped : step_of f x m ≡ to d v → Stepped f x m d v
  unfolding step_of
  stepped e =
      let (t, a, p) = chosen (allowed f x m) (ahead f x m) (price f x (ahead f x m)) d v e in
      let q : price f x d ≡ v = ap (price f x) (sym a) ∙ p in
      let o : free f d ≡ true = subst (λ k. free f k ≡ true) a (allowed-free f z x m t) in record {
        allowed = t;
        cell = a;
        price = q;
        least = omega (arith, price-low f x d (omega (arith, p, q, allowed_some f z x m t)), q);
        most = omega (arith, price-high f x d, q);
        free = o;
        few = free_few f d z o;
      }

  -- the move from d that goes back is the heading
  pub step-heading : m < 8 → step_of f x m ≡ to d v → opposite m ≡ heading f d x
  step-heading l e =
      let s = stepped e in
      let t = sym (heading_is f z (ahead f x m) (opposite m) (opposite-lt m l) (opposite-allowed f z x m l s.allowed)) in
      t ∙ ap (heading f (ahead f x m)) (opposite-ahead f z x m l s.allowed) ∙ ap (λ k. heading f k x) s.cell

-- each price is a step's
pub price-step : (f : Floor) → Sized f → (x d : ℕ) → 1 ≤ price f x d → (m : ℕ) × (m < 8) × (step_of f x m ≡ to d (price f x d))
unfolding step_of
price-step f z x d h =
    let (m, l, t, a) = price-move f z x d h in
    (m, l, ap (λ k. choose k (to (ahead f x m) (price f x (ahead f x m))) None) t ∙ ap (λ k. to k (price f x k)) a)

-- ---- the costs

-- what holds of each of them
each_cost : (P : ℕ → Type 0) → P 0 → P 1 → P 2 → P 3 → (k : ℕ) → k < all_kinds → P k
each_cost P a b c d zero h = a
each_cost P a b c d (suc zero) h = b
each_cost P a b c d (suc (suc zero)) h = c
each_cost P a b c d (suc (suc (suc zero))) h = d
each_cost P a b c d (suc (suc (suc (suc k)))) h = absurd (omega arith)

pub cost-high : (k : ℕ) → k < all_kinds → cost k ≤ dearest_price
cost-high = each_cost (λ k. cost k ≤ dearest_price) (omega arith) (omega arith) (omega arith) (omega arith)

pub cost_some : (k : ℕ) → k < all_kinds → 1 ≤ cost k
cost_some = each_cost (λ k. 1 ≤ cost k) (omega arith) (omega arith) (omega arith) (omega arith)

-- how many a floor has: all of them just where a byte is slow
pub kinds-between : (bytes : List ℕ) → (2 ≤ kinds bytes) × (kinds bytes ≤ all_kinds)
unfolding kinds
kinds-between bytes = by (member slow_byte bytes)
  where
    by : (t : Bool) → (2 ≤ choose t all_kinds 2) × (choose t all_kinds 2 ≤ all_kinds)
    by true = (omega arith, omega arith)
    by false = (omega arith, omega arith)

pub kinds_fewer : (bytes : List ℕ) → kinds bytes < all_kinds → kinds bytes ≡ 2
unfolding kinds
kinds_fewer bytes = by (member slow_byte bytes)
  where
    by : (t : Bool) → choose t all_kinds 2 < all_kinds → choose t all_kinds 2 ≡ 2
    by true h = absurd (omega arith)
    by false h = refl

pub kind_fits : (bytes : List ℕ) (k : ℕ) → k < kinds bytes → k < all_kinds
kind_fits bytes k h = omega (arith, (kinds-between bytes).1)

kinds_all : (bytes : List ℕ) (i : ℕ) → i < length bytes → get_or bytes i 0 ≡ slow_byte → kinds bytes ≡ all_kinds
unfolding kinds
kinds_all bytes i h e = ap (λ t. choose t all_kinds 2) (member_at slow_byte bytes i h (sym e))

kinds-plain : (bytes : List ℕ) → ((i : ℕ) → i < length bytes → get_or bytes i 0 ≡ slow_byte → ⊥) → kinds bytes ≡ 2
unfolding kinds
kinds-plain bytes h = ap (λ t. choose t all_kinds 2) (no_member slow_byte bytes (λ i l e. h i l (sym e)))

-- the bytes passed one after another: none yet, one more, and all of them
pub counted_none : (bytes : List ℕ) → Counted bytes 0 2
counted_none bytes = plain (omega arith) refl (λ k h. absurd (omega arith))

pub counted_more : (bytes : List ℕ) (i n : ℕ) → i < length bytes → Counted bytes i n → Counted bytes (i + 1) (choose (eqb (get_or bytes i 0) slow_byte) all_kinds n)
counted_more bytes i n here C = by (ℕ_discrete (get_or bytes i 0) slow_byte) C
  where
    by : Dec (get_or bytes i 0 ≡ slow_byte) → Counted bytes i n → Counted bytes (i + 1) (choose (eqb (get_or bytes i 0) slow_byte) all_kinds n)
    by (yes e) C = rw (eq-eqb (get_or bytes i 0) slow_byte e) (slow (omega arith) (sym (kinds_all bytes i here e)))
    by (no d) (plain h e none) = rw (ne_eqb (get_or bytes i 0) slow_byte d) (plain (omega arith) e (below_more (λ k. get_or bytes k 0 ≡ slow_byte → ⊥) i none d))
    by (no d) (slow h e) = rw (ne_eqb (get_or bytes i 0) slow_byte d) (slow (omega arith) e)

pub counted_all : (bytes : List ℕ) (i n : ℕ) → length bytes ≤ i → Counted bytes i n → n ≡ kinds bytes
counted_all bytes i n past (plain h e none) = e ∙ sym (kinds-plain bytes (λ k l. none k (omega arith)))
counted_all bytes i n past (slow h e) = e

-- the place of a move's cost in the list
abbrev kind_of : (slow : Bool) → ℕ → ℕ
kind_of true m = m % 2 + 2
kind_of false m = m % 2

toll-cost : (s : Bool) (m : ℕ) → m < 8 → doubled s (toll m) ≡ cost (kind_of s m)
toll-cost true = all8 (λ m. doubled true (toll m) ≡ cost (kind_of true m)) refl refl refl refl refl refl refl refl
toll-cost false = all8 (λ m. doubled false (toll m) ≡ cost (kind_of false m)) refl refl refl refl refl refl refl refl

slow-kinds : (f : Floor) (x : ℕ) → model.slow f x ≡ true → kinds f.bytes ≡ all_kinds
unfolding model.slow
slow-kinds f x e = by (dec_le (length f.bytes) x)
  where
    here : get_or f.bytes x 0 ≡ slow_byte
    here = eqb-true (get_or f.bytes x 0) slow_byte e

    by : Dec (length f.bytes ≤ x) → kinds f.bytes ≡ all_kinds
    by (yes h) = absurd (omega (arith, here, get_or-eq_default f.bytes 0 h))
    by (no h) = kinds_all f.bytes x (omega arith) here

kind-lt : (f : Floor) (a b m : ℕ) → kind_of (slowly f a b) m < kinds f.bytes
kind-lt f a b m = by (model.slow f a) (model.slow f b) refl refl
  where
    by : (s t : Bool) → model.slow f a ≡ s → model.slow f b ≡ t → kind_of (s || t) m < kinds f.bytes
    by true t e g = omega (arith, slow-kinds f a e)
    by false true e g = omega (arith, slow-kinds f b g)
    by false false e g = omega (arith, (kinds-between f.bytes).0)

-- each price is one of the floor's
pub price-cost : (f : Floor) → Sized f → (a b : ℕ) → 1 ≤ price f a b → (k : ℕ) × (k < kinds f.bytes) × (price f a b ≡ cost k)
price-cost f z a b h =
    let (m, l, t, e, p) = price_means f z a b h in
    (kind_of (slowly f a b) m, kind-lt f a b m, p ∙ toll-cost (slowly f a b) m l)

-- and a move has none that it cannot have
pub step_can : {f : Floor} → Sized f → (x m b k : ℕ) → m < 8 → k < all_kinds → step_of f x m ≡ to b (cost k) → can_cost m k ≡ true
step_can {f} z x m b k l h e =
    let u = stepped f z x m b (cost k) e in
    let paid = price-toll f z x m l (allowed-inside f z x m u.allowed) (allowed_some f z x m u.allowed) in
    let s = slowly f x (ahead f x m) in
    eq-eqb (m % 2) (k % 2) (by k h s m l (sym (paid ∙ toll-cost s m l) ∙ ap (price f x) u.cell ∙ u.price))
  where
    -- costs that are equal are of one parity
    parity : (j : ℕ) → j < all_kinds → (k : ℕ) → k < all_kinds → cost j ≡ cost k → j % 2 ≡ k % 2
    parity = each_cost (λ j. (k : ℕ) → k < all_kinds → cost j ≡ cost k → j % 2 ≡ k % 2)
        (each_cost (λ k. cost 0 ≡ cost k → 0 ≡ k % 2) (λ t. refl) (λ t. absurd (omega arith)) (λ t. refl) (λ t. absurd (omega arith)))
        (each_cost (λ k. cost 1 ≡ cost k → 1 ≡ k % 2) (λ t. absurd (omega arith)) (λ t. refl) (λ t. absurd (omega arith)) (λ t. refl))
        (each_cost (λ k. cost 2 ≡ cost k → 0 ≡ k % 2) (λ t. refl) (λ t. absurd (omega arith)) (λ t. refl) (λ t. absurd (omega arith)))
        (each_cost (λ k. cost 3 ≡ cost k → 1 ≡ k % 2) (λ t. absurd (omega arith)) (λ t. refl) (λ t. absurd (omega arith)) (λ t. refl))

    by : (k : ℕ) → k < all_kinds → (s : Bool) (m : ℕ) → m < 8 → cost (kind_of s m) ≡ cost k → m % 2 ≡ k % 2
    by k h true m l e = omega (arith, parity (m % 2 + 2) (omega arith) k h e)
    by k h false m l e = omega (arith, parity (m % 2) (omega arith) k h e)
