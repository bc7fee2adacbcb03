-- The offers of the code: a place stands for the cell at a place of the queue, and offers what that does; and the least offer so far.
-- Assumes nothing.
use Prim.Native.Nat.{ℕ, ◌+◌, ◌≤◌, ◌<◌}
use mathlib.Core.Path.{◌≡◌, sym, ap, ◌∙◌}
use mathlib.Core.List.{List}
use native.Mathlib.Decide.{ℕ_discrete, dec_le}
use native.Mathlib.Omega.{arith}
use borrow.Author.Count.{below_more}
use borrow.Author.Tests.{lt-ltb, le-ltb, eq-eqb, ne_eqb}
use lib.ListN.{length, get_or}
use Rattle.learning.specs.Ground.{pick}
use Rattle.model.specs.Floor.{Floor, size, Sized}
use Rattle.model.proofs.Moves.{sized-cells}
use Rattle.floor.specs.Moves.{cost}
use Rattle.opening.specs.Search.{none, Queue, offer}
use Rattle.opening.specs.Chain.{end, dist_at, cell_at, Readable, offer_of, Least}
use Rattle.opening.proofs.Chain.{cell_in_lem, cell_out}

-- ---- a place of the code: the cell at the place i of the queue

module _ {f : Floor} (z : Sized f) (l : List ℕ) {q : ℕ → ℕ} {n v : ℕ} (long : length l ≡ size f) (Q : Queue f (dist_at l) q n v) {place : ℕ} (i : ℕ)
    (S : place ≡ cell_at q n i) where
  pub place_before : (place ≡ end → ⊥) → i < n
  place_before h = by (dec_le n i)
    where
      by : Dec (n ≤ i) → i < n
      by (yes g) = absurd (h (S ∙ cell_out q n i g))
      by (no g) = omega arith

  pub place_end : place ≡ end → n ≤ i
  place_end e = by (dec_le n i)
    where
      by : Dec (n ≤ i) → n ≤ i
      by (yes g) = g
      by (no g) = absurd (omega (arith, e, S ∙ cell_in_lem q n i (omega arith), Q.on i (omega arith), sized-cells z))

  pub place-readable : Readable l place
  place-readable h = omega (arith, S ∙ cell_in_lem q n i (place_before h), Q.on i (place_before h))

  -- it offers what the cell at i does
  pub place-offer : (c : ℕ) → offer_of l place c ≡ offer (dist_at l) q n i c
  place-offer c = by (ℕ_discrete place end)
    where
      by : Dec (place ≡ end) → offer_of l place c ≡ offer (dist_at l) q n i c
      by (yes e) = ap (λ t. pick t none (dist_at l place + c)) (eq-eqb place end e) ∙ sym (ap (λ t. pick t (dist_at l (q i) + c) none) (le-ltb i n (place_end e)))
      by (no e) =
          ap (λ t. pick t none (dist_at l place + c)) (ne_eqb place end e) ∙ ap (λ y. dist_at l y + c) (S ∙ cell_in_lem q n i (place_before e))
          ∙ sym (ap (λ t. pick t (dist_at l (q i) + c) none) (lt-ltb i n (place_before e)))

-- ---- the least offer

module _ (l ps : List ℕ) {a b u w : ℕ} (ours : u ≡ offer_of l (get_or ps a 0) (cost a)) (theirs : w ≡ offer_of l (get_or ps b 0) (cost b)) (so : Least l ps b a) where
  pub least-take : b < length ps → w < u → Least l ps (b + 1) b
  least-take h g = record { one = h; low = below_more _ b (λ j k. omega (arith, ours, theirs, so.low j k)) (omega arith) }

  pub least-keep : u ≤ w → Least l ps (b + 1) a
  least-keep g = record { one = so.one; low = below_more _ b so.low (omega (arith, ours, theirs)) }

pub least_first : (l ps : List ℕ) → 1 ≤ length ps → Least l ps 1 0
least_first l ps some = record { one = some; low = λ j h. let e : j ≡ 0 = omega arith in omega (arith, ap (λ j. offer_of l (get_or ps j 0) (cost j)) e) }
