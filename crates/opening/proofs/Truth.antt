-- A list of true distances judges as the model does: below `far` stands just a cell that can reach a goal, at its true distance.
-- Assumes nothing.
use Prim.Native.Nat.{ℕ, ◌-◌, ◌*◌, ◌≤◌, ◌<◌}
use mathlib.Core.Path.{◌≡◌, refl, sym, ap, ap₂, ◌∙◌, subst}
use mathlib.Core.Bool.{Bool, true, false, ◌&&◌}
use mathlib.Core.List.{List}
use native.Mathlib.Nat.{mul-le-mul_left}
use native.Mathlib.Omega.{arith}
use borrow.Author.Tests.{lt-ltb, le-ltb}
use lib.Dec.{T, ltb}
use lib.ListN.{length, get_or}
use Rattle.learning.specs.Ground.{reach_of, dist_of}
use Rattle.learning.proofs.Ground.{reach-true}
use Rattle.learning.proofs.Certificate.{dist-high}
use Rattle.answers.specs.declared.Job.{Job}
use Rattle.answers.specs.declared.Place.TheVariants.{Nowhere}
use Rattle.model.specs.Basics.{then, refuse_at, unless, naming}
use Rattle.model.specs.Floor.{Floor, size, dearest_price, Sized}
use Rattle.model.specs.Grounds.{ground_of}
use Rattle.model.specs.Checks.{farthest, goals}
use Rattle.model.specs.Opening.{soundness}
use Rattle.model.proofs.Cells.{cells-le}
use Rattle.model.proofs.Accepted.{naming_same}
use Rattle.opening.specs.Distances.{far, Distances, above, judged, Openable}

-- the two ways through
module _ (q start : ℕ) (dist table : List ℕ) where
  pub judged-far : far ≤ get_or dist start 0 → judged q start dist table ≡ refuse_at 6 Nowhere
  unfolding judged
  judged-far h = ap (λ b. then (unless b 6) (naming (length table) (λ x. above q (get_or dist x 0) (get_or table x 0)) 7)) (le-ltb (get_or dist start 0) far h)

  pub judged-near : get_or dist start 0 < far → judged q start dist table ≡ naming (length table) (λ x. above q (get_or dist x 0) (get_or table x 0)) 7
  unfolding judged
  judged-near h = ap (λ b. then (unless b 6) (naming (length table) (λ x. above q (get_or dist x 0) (get_or table x 0)) 7)) (lt-ltb (get_or dist start 0) far h)

module _ (f : Floor) (z : Sized f) (gs : List ℕ) where
  pub true-farthest : (x : ℕ) → reach_of (ground_of f gs) x ≡ true → dist_of (ground_of f gs) x ≤ farthest
  true-farthest x e =
      let few : size f - 1 ≤ 4095 = omega (arith, cells-le f.width f.height z.narrow z.low) in
      omega (arith, dist-high (ground_of f gs) x (reach-true (ground_of f gs) x (subst T (sym e) tt)), mul-le-mul_left dearest_price few)

  module _ (dist : List ℕ) (d : Distances f gs dist) (x : ℕ) (h : x < size f) where
    reach_is : ltb (get_or dist x 0) far ≡ reach_of (ground_of f gs) x
    reach_is = by (reach_of (ground_of f gs) x) refl
      where
        by : (b : Bool) → reach_of (ground_of f gs) x ≡ b → ltb (get_or dist x 0) far ≡ b
        by true e = lt-ltb (get_or dist x 0) far (omega (arith, rw e at (d.each x h), true-farthest x e))
        by false e = le-ltb (get_or dist x 0) far (omega (arith, rw e at (d.each x h)))

    above_is : (q v : ℕ) → above q (get_or dist x 0) v ≡ (reach_of (ground_of f gs) x && ltb (q * dist_of (ground_of f gs) x) v)
    above_is q v = by (reach_of (ground_of f gs) x) refl
      where
        by : (b : Bool) → reach_of (ground_of f gs) x ≡ b → above q (get_or dist x 0) v ≡ (b && ltb (q * dist_of (ground_of f gs) x) v)
        by true e = ap₂ (λ t k. t && ltb (q * k) v) (reach_is ∙ e) (rw e at (d.each x h))
        by false e = ap (λ t. t && ltb (q * get_or dist x 0) v) (reach_is ∙ e)

pub judged-soundness : (j : Job) (f : Floor) (start : ℕ) (dist table : List ℕ) → Sized f → Openable j f start table → Distances f (goals j) dist
    → judged j.q start dist table ≡ soundness j f.bytes start table
unfolding judged soundness reach_of dist_of
judged-soundness j f start dist table z o d =
    let fault : ℕ → Bool = λ x. reach_of (ground_of f (goals j)) x && ltb (j.q * dist_of (ground_of f (goals j)) x) (get_or table x 0) in
    subst (λ g. judged j.q start dist table ≡ then (unless (reach_of (ground_of g (goals j)) start) 6) (naming (size g) (λ x. reach_of (ground_of g (goals j)) x && ltb (j.q * dist_of (ground_of g (goals j)) x) (get_or table x 0)) 7)) o.its
    (ap₂ then
    (ap (λ b. unless b 6) (reach_is f z (goals j) dist d start o.begin))
    (naming_same (length table) 7 (λ x. above j.q (get_or dist x 0) (get_or table x 0)) fault
    (λ x h. above_is f z (goals j) dist d x (omega (arith, o.long)) j.q (get_or table x 0))
    ∙ ap (λ n. naming n fault 7) o.long))
