-- The opening figures are sound: no move between ordinary cells lowers the octile distance by more than its price, and slow cells only add
-- to a distance, so no opening figure passes the true one. And they are small, so no table of opening figures is refused by 5 or by 7. Assumes nothing.
use Prim.Native.Nat.{ℕ, zero, suc, ◌+◌, ◌*◌, ◌≤◌, ◌<◌, min}
use mathlib.Core.Path.{◌≡◌, refl, sym, ap, ap₂, ◌∙◌, subst}
use mathlib.Core.Bool.{Bool, true, false, ◌||◌}
use mathlib.Core.Logic.{◌⊎◌, inl, inr}
use mathlib.Core.List.{List, [], ◌∷◌}
use native.Mathlib.Nat.{le_trans, mul-le-mul, mul-le-mul_left, mod-lt, min-eq_left, min-eq_right}
use native.Mathlib.Omega.{arith}
use native.Mathlib.Decide.{dec_le}
use borrow.Author.Tests.{eqb-true, le-ltb}
use lib.Dec.{T, ltb, eqb}
use lib.ListN.{length, get_or}
use Rattle.learning.specs.Walk.{Any, Reaches}
use Rattle.learning.specs.Ground.{Goal, net_of, dist_of}
use Rattle.learning.proofs.Route.{closed-low}
use Rattle.learning.proofs.Spread.{list_at, second-true}
use Rattle.learning.proofs.Ground.{on_floor, dist-least}
use Rattle.answers.specs.declared.Job.{Job}
use Rattle.std.specs.Prelude.{Ok}
use Rattle.model.specs.Basics.{member}
use Rattle.model.specs.Floor.{Floor, size, Sized, column, row, free, apart, tariff, clear, octile, opening, opening_table, straight, diagonal}
use Rattle.model.specs.Grounds.{ground_of}
use Rattle.model.specs.Checks.{ceiling, floor_of, goals, ground_in, finest, Benched}
use Rattle.model.specs.Opening.{accepts}
use Rattle.model.proofs.Cells.{row_lt}
use Rattle.model.proofs.Moves.{fared}
use Rattle.model.proofs.SlowZones.{ordinary_price, as_ordinary, reached_as_ordinary, slow_distances_only_grow}
use Rattle.model.proofs.Accepted.{then_next, figures-done}
use Rattle.model.proofs.Benches.{AllFree, places_judges, InOrder, goals_judges, benched}
use Rattle.model.proofs.Soundness.{CanReach, Above, sound}

-- ---- how large

pub gap-lt : (n a b : ℕ) → a < n → b < n → apart a b < n
gap-lt n a b h k = omega arith

octile-high : (f : Floor) → 1 ≤ f.width → f.width ≤ 64 → f.height ≤ 64 → (q g x : ℕ) → q ≤ 16 → g < size f → x < size f → octile f q g x ≤ finest * (diagonal * 63)
unfolding octile
octile-high f some narrow low q g x fine hg hx =
    let dx : apart (column f x) (column f g) < 64 = gap-lt 64 (column f x) (column f g) (omega (arith, mod-lt x {m = f.width} some)) (omega (arith, mod-lt g {m = f.width} some)) in
    let dy : apart (row f x) (row f g) < 64 =
    gap-lt 64 (row f x) (row f g) (omega (arith, row_lt f.width f.height x some hx)) (omega (arith, row_lt f.width f.height g some hg)) in
    mul-le-mul fine (far (apart (column f x) (column f g)) (apart (row f x) (row f g)) dx dy)
  where
    far : (dx dy : ℕ) → dx < 64 → dy < 64 → diagonal * min dx dy + straight * apart dx dy ≤ diagonal * 63
    far dx dy h k = omega arith

-- the least of several is no higher
pub opening-high : (f : Floor) → 1 ≤ f.width → f.width ≤ 64 → f.height ≤ 64 → (q : ℕ) (gs : List ℕ) (x : ℕ) → q ≤ 16
    → ((i : ℕ) → i < length gs → get_or gs i 0 < size f) → x < size f → opening f q gs x ≤ finest * (diagonal * 63)
unfolding opening
opening-high f some narrow low q [] x fine on hx = omega arith
opening-high f some narrow low q (g ∷ []) x fine on hx = octile-high f some narrow low q g x fine (on 0 (omega arith)) hx
opening-high f some narrow low q (g ∷ h ∷ gs) x fine on hx = omega (arith, octile-high f some narrow low q g x fine (on 0 (omega arith)) hx)

-- so within the ceiling
pub opening-within : (f : Floor) (q : ℕ) (gs : List ℕ) (x : ℕ) → Sized f → q ≤ 16 → Benched (size f) gs → x < size f → opening f q gs x ≤ ceiling
opening-within f q gs x z fine b hx = omega (arith, opening-high f z.wide z.narrow z.low q gs x fine b.on hx)

-- ---- no move between ordinary cells lowers the octile distance by more than its price

-- of dx columns and dy rows
span : ℕ → ℕ → ℕ
span dx dy = diagonal * min dx dy + straight * apart dx dy

-- going one column and one row less at most
span_mono : (x y x' y' : ℕ) → x ≤ x' → y ≤ y' → span x y ≤ span x' y'
unfolding span
span_mono x y x' y' h k = omega arith

span-step : (x y : ℕ) → (span (x + 1) y ≤ straight + span x y) × (span x (y + 1) ≤ straight + span x y) × (span (x + 1) (y + 1) ≤ diagonal + span x y)
unfolding span
span-step x y = (omega arith, omega arith, omega arith)

span-tariff : (e f x y x' y' : ℕ) → e ≤ 1 → f ≤ 1 → 1 ≤ e + f → x ≤ x' + e → y ≤ y' + f → span x y ≤ tariff (e + f) + span x' y'
span-tariff zero zero x y x' y' he hf some hx hy = absurd (omega arith)
span-tariff (suc zero) zero x y x' y' he hf some hx hy = omega (arith, span_mono x y (x' + 1) y' (omega arith) (omega arith), (span-step x' y').0)
span-tariff zero (suc zero) x y x' y' he hf some hx hy = omega (arith, span_mono x y x' (y' + 1) (omega arith) (omega arith), (span-step x' y').1)
span-tariff (suc zero) (suc zero) x y x' y' he hf some hx hy = omega (arith, span_mono x y (x' + 1) (y' + 1) (omega arith) (omega arith), (span-step x' y').2)
span-tariff (suc (suc e)) f x y x' y' he hf some hx hy = absurd (omega arith)
span-tariff zero (suc (suc f)) x y x' y' he hf some hx hy = absurd (omega arith)
span-tariff (suc zero) (suc (suc f)) x y x' y' he hf some hx hy = absurd (omega arith)

triangle : (a b g : ℕ) → apart a g ≤ apart b g + apart a b
triangle a b g = omega arith

min-scale : (q a b : ℕ) → min (q * a) (q * b) ≡ q * min a b
min-scale q a b = by (dec_le a b)
  where
    by : Dec (a ≤ b) → min (q * a) (q * b) ≡ q * min a b
    by (yes h) = min-eq_left (mul-le-mul_left q h) ∙ ap (λ k. q * k) (sym (min-eq_left h))
    by (no h) = min-eq_right (mul-le-mul_left q (omega arith)) ∙ ap (λ k. q * k) (sym (min-eq_right (omega arith)))

either : (a b : Bool) → T (a || b) → (a ≡ true) ⊎ T b
either true b t = inl refl
either false b t = inr t

module _ (f : Floor) where
  -- the opening figures go by q
  octile-scale : (q g x : ℕ) → octile f q g x ≡ q * octile f 1 g x
  unfolding octile
  octile-scale q g x = ap (λ k. q * k) (omega arith)

  opening-scale : (q : ℕ) (gs : List ℕ) (x : ℕ) → opening f q gs x ≡ q * opening f 1 gs x
  unfolding opening
  opening-scale q [] x = omega arith
  opening-scale q (g ∷ []) x = octile-scale q g x
  opening-scale q (g ∷ h ∷ gs) x = ap₂ min (octile-scale q g x) (opening-scale q (h ∷ gs) x) ∙ min-scale q (octile f 1 g x) (opening f 1 (h ∷ gs) x)

  octile_covers : (g a b : ℕ) → 1 ≤ ordinary_price f a b → octile f 1 g a ≤ ordinary_price f a b + octile f 1 g b
  unfolding octile span
  octile_covers g a b h =
      let p = fared f a b (clear f a b) false h in
      omega (
        arith,
        p.cost,
        span-tariff (apart (column f a) (column f b)) (apart (row f a) (row f b)) (apart (column f a) (column f g)) (apart (row f a) (row f g)) (apart (column f b) (column f g))
            (apart (row f b) (row f g)) p.columns p.rows p.some (triangle (column f a) (column f b) (column f g)) (triangle (row f a) (row f b) (row f g)),
      )

  covers : (gs : List ℕ) (a b : ℕ) → 1 ≤ ordinary_price f a b → opening f 1 gs a ≤ ordinary_price f a b + opening f 1 gs b
  unfolding opening
  covers [] a b h = omega arith
  covers (g ∷ []) a b h = octile_covers g a b h
  covers (g ∷ k ∷ gs) a b h = omega (arith, octile_covers g a b h, covers (k ∷ gs) a b h)

  octile_here : (g : ℕ) → octile f 1 g g ≤ 0
  unfolding octile
  octile_here g = omega arith

  at_goal_lem : (gs : List ℕ) (z : ℕ) → T (member z gs) → opening f 1 gs z ≤ 0
  unfolding opening member
  at_goal_lem [] z t = absurd t
  at_goal_lem (g ∷ []) z t = by (either (eqb z g) false t)
    where
      by : (eqb z g ≡ true) ⊎ T false → octile f 1 g z ≤ 0
      by (inl e) = subst (λ y. octile f 1 g y ≤ 0) (sym (eqb-true z g e)) (octile_here g)
      by (inr h) = absurd h
  at_goal_lem (g ∷ k ∷ gs) z t = by (λ h. at_goal_lem (k ∷ gs) z h) (either (eqb z g) (member z (k ∷ gs)) t)
    where
      by : (T (member z (k ∷ gs)) → opening f 1 (k ∷ gs) z ≤ 0) → (eqb z g ≡ true) ⊎ T (member z (k ∷ gs)) → min (octile f 1 g z) (opening f 1 (k ∷ gs) z) ≤ 0
      by rest (inl e) = omega (arith, subst (λ y. octile f 1 g y ≤ 0) (sym (eqb-true z g e)) (octile_here g))
      by rest (inr h) = omega (arith, rest h)

  -- no opening figure passes what would be the true figure, were slow cells ordinary ones
  ordinary_low : (gs : List ℕ) (x : ℕ) → Reaches (net_of (as_ordinary f gs)) (Goal (as_ordinary f gs)) x → opening f 1 gs x ≤ dist_of (as_ordinary f gs) x
  ordinary_low gs x r =
      let G = as_ordinary f gs in
      let (z, g, (n, w)) = (dist-least G x r).met in
      closed-low {N = net_of G} {S = Any} {Goal = Goal G} (opening f 1 gs) (λ y t. at_goal_lem gs y (second-true (ltb y (size f)) (member y gs) t))
      (λ a b c s e. omega (arith, e.0, e.1, covers gs a b (omega (arith, e.0, e.1)))) g w

  -- so none passes the true figure, which is no less
  pub opening-low : (q : ℕ) (gs : List ℕ) (x : ℕ) → Reaches (net_of (ground_of f gs)) (Goal (ground_of f gs)) x → opening f q gs x ≤ q * dist_of (ground_of f gs) x
  opening-low q gs x r =
      let low = le_trans (ordinary_low gs x (reached_as_ordinary f gs x r)) (slow_distances_only_grow f gs x r) in
      omega (arith, opening-scale q gs x, mul-le-mul_left q low)

-- ---- a table of opening figures

module _ (j : Job) (bytes : List ℕ) where
  abbrev opened : List ℕ
  opened = opening_table (floor_of j bytes) j.q (goals j)

  figure_is : (x : ℕ) → x < size (floor_of j bytes) → get_or opened x 0 ≡ opening (floor_of j bytes) j.q (goals j) x
  unfolding opening_table
  figure_is x h = list_at (size (floor_of j bytes)) (opening (floor_of j bytes) j.q (goals j)) x 0 h

  -- is never refused by 7
  pub opening-sound : (x : ℕ) → ¬ Above j bytes opened x
  opening-sound x (r, l) = omega (arith, figure_is x (on_floor (ground_in j bytes) x r), opening-low (floor_of j bytes) j.q (goals j) x r)

  -- nor by 5, so a job opens with it just where a walk exists
  pub opening-opens : (start : ℕ) → Sized (floor_of j bytes) → j.q ≤ 16 → free (floor_of j bytes) start ≡ true → AllFree (floor_of j bytes) (goals j) → InOrder j.goals
      → CanReach j bytes start → accepts j bytes start opened ≡ Ok tt
  unfolding accepts
  opening-opens start z fine here benches order r =
      let f = floor_of j bytes in
      then_next _ ((places_judges f start (goals j)).done (here, benches))
      ∙ then_next _ ((goals_judges j.goals).done order)
      ∙ then_next _ (figures-done f opened (λ x h. le-ltb ceiling (get_or opened x 0) (small x h)))
      ∙ sound j bytes start opened r opening-sound
    where
      small : (x : ℕ) → x < size (floor_of j bytes) → get_or opened x 0 ≤ ceiling
      small x h = omega (arith, figure_is x h, opening-within (floor_of j bytes) j.q (goals j) x z fine (benched (floor_of j bytes) j.goals benches order) h)
