-- The paper's Theorem 7.8, "the second trial of LRTS(T=0) .. is guaranteed to be final", where it holds: with quota 0, from any sound table, at depth 1 with any weight and
-- with weight 1/1 at any depth.
-- With quota 0 whatever is learned makes the cart back out. So at each cell of the path that is left, the target is the next cell still and its figure pays for the move:
-- neither of the two has risen since, and all others can only have risen. Along such a path the second trial goes. At depth 1 the target's ring is all that a decision looks
-- at, so it learns nothing; with weight 1/1 the figures along the path are the true ones, and none can rise. At depth 2 with another weight an inner ring's best can have
-- risen since, off the path (docs/METHOD.md).
use Prim.Native.Nat.{ℕ, ◌+◌, ◌*◌, ◌≤◌}
use mathlib.Core.Path.{◌≡◌, refl, sym, ap, ◌∙◌, subst}
use mathlib.Core.Logic.{◌≢◌, ◌⊎◌, inl, inr}
use mathlib.Core.List.{List, [], ◌∷◌, ◌++◌}
use native.Mathlib.Nat.{le_refl, le_antisymm, mul-le-mul_left}
use native.Mathlib.Omega.{arith}
use Rattle.learning.specs.Path.{All, also, Linked, loose, link, first, legs, before}
use Rattle.learning.specs.Trial.{Job, Lawful, CanReach, Sound, LooksAhead, State, Step, forward, back_out, stay, Trial, none, next, opened, figure, truth, raised}
use Rattle.learning.proofs.Paths.{all_last, distinct_last, linked-cut, linked-back, linked-map}
use Rattle.learning.proofs.Decision.{new_low, raised_not, raised-high, raised_else}
use Rattle.learning.proofs.Trials.{Keeps, keeps-opened, keeps-step, keeps-trial}
use Rattle.learning.proofs.Decides.{step_after}
use Rattle.learning.proofs.Travel.{path_walk}

-- with these figures y is the target from x, and the figure of x pays for the move there
record Heads (J : Job) (table : List ℕ) (x y : ℕ) : Type 0 where
  aside : ¬ J.Goal x
  on_last : J.ring x y ≡ J.last x
  paid : J.p * J.leg x y + figure table y ≤ figure table x
  least : (z : ℕ) → J.ring x z ≡ J.last x → J.p * J.leg x y + figure table y ≤ J.p * J.leg x z + figure table z
  lowest : (z : ℕ) → J.ring x z ≡ J.last x → J.p * J.leg x z + figure table z ≡ J.p * J.leg x y + figure table y → y ≤ z

-- and a decision at x learns nothing
abbrev Quiet : Job → List ℕ → ℕ → Type 0
Quiet J table x = (new t : ℕ) → LooksAhead J x table new t → new ≤ figure table x

module _ {J : Job} (L : Lawful J) where
  -- a decision that learns nothing heads for its target
  heads_of : {x new y : ℕ} {table : List ℕ} → ¬ J.Goal x → CanReach J x → LooksAhead J x table new y → new ≤ figure table x → Heads J table x y
  heads_of {x} {new} {y} {table} g r A h =
      let m = J.last x in
      let some = (L.windows x g r).some in
      let low : (z : ℕ) → J.ring x z ≡ m → A.best m ≤ J.p * J.leg x z + figure table z = λ z e. (A.bests m some (le_refl m)).low _ (z, e, refl) in
      record {
        aside = g;
        on_last = A.on_last;
        paid = omega (arith, A.chosen, A.greatest.high (A.best m) (m, some, le_refl m, refl));
        least = λ z e. omega (arith, A.chosen, low z e);
        lowest = λ z e q. A.lowest z e (q ∙ A.chosen);
      }

  -- and whatever else rises, it does so still
  heads_raised : {s new t : ℕ} {table : List ℕ} → Sound J table → CanReach J s → ¬ J.Goal s → LooksAhead J s table new t → (x y : ℕ) → x ≢ s → y ≢ s → Heads J table x y
      → Heads J (raised table s new) x y
  heads_raised S r g A x y ox oy h =
      let x-stays = raised_else L S r g A x ox in
      let y-stays = raised_else L S r g A y oy in
      record {
        aside = h.aside;
        on_last = h.on_last;
        paid = omega (arith, h.paid);
        least = λ z e. omega (arith, h.least z e, raised-high L S r g A z);
        lowest = λ z e q. h.lowest z e (omega (arith, h.least z e, raised-high L S r g A z));
      }

  -- a decision there goes to that target, where it learns nothing
  follow : {start a d y : ℕ} {x v : State} → Step J x a d v → Keeps J start x → Heads J x.table x.cell y → Quiet J x.table x.cell
      → (a ≡ 0) × (v.cell ≡ y) × (v.table ≡ x.table)
  follow {y = y} (forward {s = s} {new = new} {t = t} {path = path} {table = table} g A h) k heads quiet =
      let nothing : new ≤ figure table s = quiet new t A in
      let aims : Heads J table s t = heads_of g (all_last path s k.reach) A nothing in
      let same : J.p * J.leg s y + figure table y ≡ J.p * J.leg s t + figure table t = le_antisymm (heads.least t A.on_last) (aims.least y heads.on_last) in
      (omega arith, le_antisymm (aims.lowest y heads.on_last same) (heads.lowest t A.on_last (sym same)), sym (raised_not table s new nothing))
  follow (back_out {s = s} {new = new} {t = t} g A h) k heads quiet = absurd (omega (arith, quiet new t A, k.within))
  follow (stay {s = s} {new = new} {t = t} g A h) k heads quiet = absurd (omega (arith, quiet new t A, k.within))

  -- so a trial that begins where such a path does follows it, and learns nothing
  follows : {start n l d c : ℕ} {x v : State} (xs : List ℕ) → Trial J x n l d v → Keeps J start x → first xs c ≡ x.cell → J.Goal c
      → Linked (λ a b. Heads J x.table a b × Quiet J x.table a) xs c → l ≡ 0
  follows xs none k e there led = refl
  follows [] (next s r) k e there led = absurd ((step_after s).aside (subst J.Goal e there))
  follows {c = c} {x = x} (b ∷ bs) (next s r) k e there (link now more) =
      let (heads, quiet) = subst (λ z. Heads J x.table z (first bs c) × Quiet J x.table z) e now in
      let (nothing, to, same) = follow s k heads quiet in
      omega (arith, nothing, follows bs r (keeps-step L s k) (sym to) there (subst (λ t. Linked (λ a b. Heads J t a b × Quiet J t a) bs c) (sym same) more))

  -- ---- at depth 1

  quiet_near : {x y : ℕ} {table : List ℕ} → J.depth ≡ 1 → CanReach J x → Heads J table x y → Quiet J table x
  quiet_near {x} {y} shallow r heads new t A =
      let W = L.windows x heads.aside r in
      let (k, some, last, is) = A.greatest.met in
      let one : k ≡ J.last x = omega (arith, W.some, W.depth) in
      omega (arith, (A.bests k some last).low _ (y, heads.on_last ∙ sym one, refl), heads.paid)

  -- ---- with weight 1/1

  -- a path that is paid for all the way has true figures
  paid_along : {table : List ℕ} {xs : List ℕ} {c : ℕ} → Linked (Heads J table) xs c → J.p * legs J.leg xs c + figure table c ≤ figure table (first xs c)
  paid_along loose = omega arith
  paid_along (link h k) = omega (arith, h.paid, paid_along k)

  quiet_true : {table : List ℕ} → J.p ≡ J.q → Sound J table → (xs : List ℕ) {c : ℕ} → All (CanReach J) (xs ++ c ∷ []) → J.Goal c → Linked (Heads J table) xs c
      → Linked (λ a b. Heads J table a b × Quiet J table a) xs c
  quiet_true same S [] reach there led = loose
  quiet_true {table} same S (x ∷ xs) {c} (also r reach) there (link h k) =
      let way = path_walk L (x ∷ xs) c (also r reach) (linked-map (λ a b ra rb e. (e.aside, e.on_last)) (x ∷ xs) (also r reach) (link h k)) in
      let near : J.dist x ≤ legs J.leg (x ∷ xs) c = (L.true-dist x r).low _ (c, there, way) in
      let high : truth J x ≤ figure table x = omega (arith, mul-le-mul_left J.q near, ap (λ (w : ℕ). w * legs J.leg (x ∷ xs) c) same, paid_along (link h k)) in
      link (h, λ new t A. omega (arith, new_low L S r h.aside A, high)) (quiet_true same S xs reach there k)

  -- ---- the path that a trial leaves

  -- along the path so far each cell heads for the next
  Headed : State → Type 0
  Headed x = Linked (Heads J x.table) x.path x.cell

  module _ (none_allowed : J.quota ≡ 0) where
    headed_step : {start a d : ℕ} {x y : State} → Step J x a d y → Keeps J start x → Headed x → Headed y
    unfolding Headed
    headed_step (forward {s = s} {new = new} {t = t} {path = path} {table = table} g A h) k led =
        let nothing : new ≤ figure table s = omega (arith, ap (λ (v : ℕ). J.q * v) none_allowed) in
        subst (λ z. Linked (Heads J z) (before t (path ++ s ∷ [])) t) (raised_not table s new nothing) (linked-cut t (heads_of g (all_last path s k.reach) A nothing) led)
    headed_step (back_out {s = s} {l = l} {path = path} {table = table} g A h) k led =
        linked-map (heads_raised k.sound (all_last (path ++ l ∷ []) s k.reach) g A) path (distinct_last (path ++ l ∷ []) s k.distinct) (linked-back path l led)
    headed_step (stay g A h) k led = loose

    headed_trial : {start n l d : ℕ} {x y : State} → Trial J x n l d y → Keeps J start x → Headed x → Headed y
    headed_trial none k led = led
    headed_trial (next s r) k led = headed_trial r (keeps-step L s k) (headed_step s k led)

    -- ---- the second trial, which begins with the table that the first left

    pub second_trial_learns_nothing : (J.depth ≡ 1) ⊎ (J.p ≡ J.q) → {start n l d n' l' d' : ℕ} {table : List ℕ} {y z : State} → Sound J table → CanReach J start
        → Trial J (opened start table) n l d y → J.Goal y.cell → Trial J (opened start y.table) n' l' d' z → l' ≡ 0
    unfolding Headed
    second_trial_learns_nothing which {start} {table = table} {y = y} S r t there again =
        let k = keeps-trial L t (keeps-opened L start table S r) in
        follows y.path again (keeps-opened L start y.table k.sound r) k.begins there (by k (headed_trial t (keeps-opened L start table S r) loose) which)
      where
        by : Keeps J start y → Linked (Heads J y.table) y.path y.cell → (J.depth ≡ 1) ⊎ (J.p ≡ J.q)
            → Linked (λ a b. Heads J y.table a b × Quiet J y.table a) y.path y.cell
        by k led (inl shallow) = linked-map (λ a b ra rb h. (h, quiet_near shallow ra h)) y.path k.reach led
        by k led (inr same) = quiet_true same k.sound y.path k.reach there led
