-- The search for an empty ring: it finds one just where there is one.
-- A ring is empty where the lowest of its cells is none of the floor's.
use Prim.Native.Nat.{ℕ, zero, suc, ◌≤◌, ◌<◌}
use mathlib.Core.Path.{◌≡◌, refl, ap₂}
use mathlib.Core.Bool.{Bool, true, false, ◌||◌}
use mathlib.Core.List.{List}
use native.Mathlib.Omega.{arith}
use native.Mathlib.Decide.{dec_le}
use borrow.Author.Tests.{leb-true, leb-false, lt-leb, eqb-true}
use lib.Dec.{leb, eqb}
use Rattle.learning.specs.Ground.{View}
use Rattle.learning.specs.Look.{lowest}
use Rattle.learning.proofs.Look.{eqb_of, lowest-low, lowest_some}
use Rattle.answers.specs.declared.Job.{Job}
use Rattle.model.specs.Floor.{size}
use Rattle.model.specs.Checks.{floor_of}
use Rattle.model.specs.Lookahead.{ring, empty_ring}
use Rattle.model.proofs.Moves.{is_true}

either : (a b : Bool) → (a || b) ≡ true → a ≡ false → b ≡ true
either a b e f = rw f at e

neither : (a b : Bool) → (a || b) ≡ false → (a ≡ false) × (b ≡ false)
neither true b e = let z : ◌≡◌ {A = ℕ} 0 1 = cc in absurd (omega arith)
neither false b e = (refl, e)

module _ (j : Job) (bytes : List ℕ) (v : View) where
  -- no cell of the floor is on ring k
  abbrev pub Bare : ℕ → Type 0
  Bare k = (x : ℕ) → x < size (floor_of j bytes) → ring j bytes v x ≡ k → ⊥

  abbrev on : ℕ → ℕ → Bool
  on k x = eqb (ring j bytes v x) k

  pub empty_none : (m : ℕ) → ((k : ℕ) → 1 ≤ k → k ≤ m → (x : ℕ) × (x < size (floor_of j bytes)) × (ring j bytes v x ≡ k)) → empty_ring j bytes v m ≡ false
  unfolding empty_ring
  empty_none zero full = refl
  empty_none (suc m) full =
      let (x, l, e) = full (suc m) (omega arith) (omega arith) in
      ap₂ ◌||◌ (empty_none m (λ k h i. full k h (omega arith)))
      (lt-leb (size (floor_of j bytes)) (lowest (size (floor_of j bytes)) (on (suc m))) (omega (arith, l, lowest-low (size (floor_of j bytes)) (on (suc m)) x l (eqb_of (ring j bytes v x) (suc m) e))))

  pub empty_some : (m : ℕ) → empty_ring j bytes v m ≡ true → (k : ℕ) × (1 ≤ k) × (k ≤ m) × Bare k
  unfolding empty_ring
  empty_some zero e = let z : ◌≡◌ {A = ℕ} 0 1 = cc in absurd (omega arith)
  empty_some (suc m) e = by (empty_ring j bytes v m) refl (empty_some m)
    where
      bare : leb (size (floor_of j bytes)) (lowest (size (floor_of j bytes)) (on (suc m))) ≡ true → Bare (suc m)
      bare t x l q =
          omega (
            arith,
            l,
            leb-true (size (floor_of j bytes)) (lowest (size (floor_of j bytes)) (on (suc m))) t,
            lowest-low (size (floor_of j bytes)) (on (suc m)) x l
                (eqb_of (ring j bytes v x) (suc m) q),
          )

      by : (b : Bool) → empty_ring j bytes v m ≡ b → (empty_ring j bytes v m ≡ true → (k : ℕ) × (1 ≤ k) × (k ≤ m) × Bare k) → (k : ℕ) × (1 ≤ k) × (k ≤ suc m) × Bare k
      by true f below = let (k, h, i, none) = below f in (k, h, omega arith, none)
      by false f below = (suc m, omega arith, omega arith, bare (either _ _ e f))

  pub empty-full : (m : ℕ) → empty_ring j bytes v m ≡ false → (k : ℕ) → 1 ≤ k → k ≤ m → (x : ℕ) × (x < size (floor_of j bytes)) × (ring j bytes v x ≡ k)
  unfolding empty_ring
  empty-full zero e k h i = absurd (omega arith)
  empty-full (suc m) e k h i =
      let below = neither (empty_ring j bytes v m) _ e in
      by (empty-full m below.0 k h) (dec_le k m)
    where
      by : (k ≤ m → (x : ℕ) × (x < size (floor_of j bytes)) × (ring j bytes v x ≡ k)) → Dec (k ≤ m) → (x : ℕ) × (x < size (floor_of j bytes)) × (ring j bytes v x ≡ k)
      by lower (yes l) = lower l
      by lower (no l) =
          let n = size (floor_of j bytes) in
          let some : lowest n (on (suc m)) < n = leb-false n (lowest n (on (suc m))) (neither (empty_ring j bytes v m) _ e).1 in
          let met = eqb-true (ring j bytes v (lowest n (on (suc m)))) (suc m) (is_true _ (lowest_some n (on (suc m)) some)) in
          (lowest n (on (suc m)), some, omega arith)

  pub empty_of : (m k : ℕ) → 1 ≤ k → k ≤ m → Bare k → empty_ring j bytes v m ≡ true
  empty_of m k h i bare = by (empty_ring j bytes v m) refl
    where
      by : (b : Bool) → empty_ring j bytes v m ≡ b → b ≡ true
      by true e = refl
      by false e = let (x, l, q) = empty-full m e k h i in absurd (bare x l q)
