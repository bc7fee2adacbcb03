-- What each check says, for the code that makes it and for whoever was let through by it.
-- A check judges a fact: it is done where the fact holds, and else refused by its number. A search that names the lowest cell has laws of its own.
use Prim.Native.Nat.{ℕ, zero, suc, ◌≤◌, ◌<◌, min}
use mathlib.Core.Path.{◌≡◌, refl, sym, ap, ap₂, subst, ◌∙◌}
use mathlib.Core.Bool.{Bool, true, false, ◌&&◌, ◌||◌}
use mathlib.Core.Logic.{◌⊎◌, inl, inr, ⊎_elim}
use mathlib.Core.List.{List}
use native.Mathlib.Omega.{arith}
use native.Mathlib.Decide.{dec_le}
use borrow.Author.Tests.{leb-true, ltb-true, eqb-true, ltb-false, le-leb, lt-ltb, le-ltb, eq-eqb}
use lib.Dec.{T, leb, ltb, eqb}
use lib.ListN.{length, get_or}
use Rattle.learning.specs.Ground.{pick, least_over}
use Rattle.learning.specs.Look.{lowest}
use Rattle.learning.proofs.Look.{lowest-low, lowest_some}
use Rattle.answers.specs.declared.Job.{Job}
use Rattle.answers.specs.declared.Refusal.{Refusal}
use Rattle.answers.specs.declared.Place.TheVariants as P
use Rattle.answers.specs.Outcomes.{Verdict}
use Rattle.std.specs.Prelude.{Ok, Err}
use Rattle.model.specs.Basics.{choose, between, then, refuse_at, unless, naming}
use Rattle.model.specs.Floor.{Floor, size, Sized}
use Rattle.model.specs.Checks.{ceiling, sizes, path_room, settings, scale, figures, deepest, finest, largest_quota}
use Rattle.model.specs.Opening.{reports_room, trials_hold}
use Rattle.model.proofs.Moves.{is_true, both, both_of}

-- ---- one check after another

pub not_refused : {A : Type 0} {v : Verdict} {r : Refusal} → v ≡ Ok tt → v ≡ Err r → A
not_refused d e = let z : ◌≡◌ {A = ℕ} 0 1 = cc in absurd (omega arith)

pub then_next : {v : Verdict} (w : Verdict) → v ≡ Ok tt → then v w ≡ w
then_next w e = ap (λ u. then u w) e

pub then_refused : {v : Verdict} {r : Refusal} (w : Verdict) → v ≡ Err r → then v w ≡ Err r
then_refused w e = ap (λ u. then u w) e

-- the same of an answer that is the first check's, and of one that is what comes after it
pub then_stops : {v a : Verdict} {r : Refusal} (w : Verdict) → a ≡ v → a ≡ Err r → a ≡ then v w
then_stops w e q = q ∙ sym (then_refused w (sym e ∙ q))

pub then_goes : {v a b : Verdict} (w : Verdict) → a ≡ v → a ≡ Ok tt → b ≡ w → b ≡ then v w
then_goes w e q g = g ∙ sym (then_next w (sym e ∙ q))

pub then_done : (v w : Verdict) → then v w ≡ Ok tt → (v ≡ Ok tt) × (w ≡ Ok tt)
then_done (Ok _) w e = (refl, e)
then_done (Err r) w e = let z : ◌≡◌ {A = ℕ} 0 1 = cc in absurd (omega arith)

-- ---- a test tells a fact

pub or_true : (b : Bool) → (b || true) ≡ true
or_true true = refl
or_true false = refl

pub record Tells (b : Bool) (F : Type 0) : Type 0 where
  pub holds : b ≡ true → F
  pub shown : F → b ≡ true

pub record Judges (v : Verdict) (number : ℕ) (F : Type 0) : Type 0 where
  pub gives : v ≡ Ok tt → F
  pub done : F → v ≡ Ok tt
  pub refused : (F → ⊥) → v ≡ refuse_at number P.Nowhere

pub le_tells : (a b : ℕ) → Tells (leb a b) (a ≤ b)
le_tells a b = record { holds = leb-true a b; shown = le-leb a b }

pub eq_tells : (a b : ℕ) → Tells (eqb a b) (a ≡ b)
eq_tells a b = record { holds = eqb-true a b; shown = eq-eqb a b }

pub is_tells : (b : Bool) → Tells b (b ≡ true)
is_tells b = record { holds = λ e. e; shown = λ e. e }

pub and_tells : {a b : Bool} {F H : Type 0} → Tells a F → Tells b H → Tells (a && b) (F × H)
and_tells {a} {b} s t = record {
  holds = λ e. (s.holds (both a b e).0, t.holds (both a b e).1);
  shown = λ h. both_of a b (s.shown h.0) (t.shown h.1);
}

pub or_tells : {a b : Bool} {F H : Type 0} → Tells a F → Tells b H → Tells (a || b) (F ⊎ H)
or_tells {a} {b} {F} {H} s t = record { holds = either a refl; shown = λ h. ⊎_elim (λ k. ap (λ c. c || b) (s.shown k)) (λ k. ap (λ c. a || c) (t.shown k) ∙ or_true a) h }
  where
    either : (c : Bool) → a ≡ c → (c || b) ≡ true → F ⊎ H
    either true e h = inl (s.holds e)
    either false e h = inr (t.holds h)

pub told : {b : Bool} {F H : Type 0} → Tells b F → (F → H) → (H → F) → Tells b H
told t to from = record { holds = λ e. to (t.holds e); shown = λ h. t.shown (from h) }

pub unless_judges : {F : Type 0} (b : Bool) (number : ℕ) → Tells b F → Judges (unless b number) number F
unless_judges true number t = record { gives = λ e. t.holds refl; done = λ f. refl; refused = λ h. absurd (h (t.holds refl)) }
unless_judges false number t = record {
  gives = λ e. let z : ◌≡◌ {A = ℕ} 0 1 = cc in absurd (omega arith);
  done = λ f. let y : false ≡ true = t.shown f in let z : ◌≡◌ {A = ℕ} 0 1 = cc in absurd (omega arith);
  refused = λ h. refl;
}

-- ---- the checks: 1, 2 and 3 (4 and 27 stand in `Benches`)

pub record Settings (j : Job) : Type 0 where
  pub deep : 1 ≤ j.depth
  pub shallow : j.depth ≤ deepest
  pub light : 1 ≤ j.p
  pub weight : j.p ≤ j.q
  pub fine : j.q ≤ finest
  pub within : j.quota ≤ largest_quota

pub between_tells : (a x b : ℕ) → Tells (between a x b) ((a ≤ x) × (x ≤ b))
between_tells a x b = and_tells (le_tells a x) (le_tells x b)

pub sizes_judges : (f : Floor) (n : ℕ) → Judges (sizes f n) 1 (Sized f × (n ≡ size f))
unfolding sizes
sizes_judges f n =
    unless_judges _ 1
    (told
    (and_tells (and_tells (and_tells (between_tells 1 f.width 64) (between_tells 1 f.height 64)) (eq_tells (length f.bytes) (size f))) (eq_tells n (size f)))
    (λ h. (record { wide = h.0.0.0.0; narrow = h.0.0.0.1; high = h.0.0.1.0; low = h.0.0.1.1; cells = h.0.1 }, h.1))
    (λ h. ((((h.0.wide, h.0.narrow), (h.0.high, h.0.low)), h.0.cells), h.1)))

pub path_judges : (f : Floor) (n : ℕ) → Judges (path_room f n) 2 (size f ≤ n)
unfolding path_room
path_judges f n = unless_judges _ 2 (le_tells (size f) n)

pub reports_judges : (trials records : ℕ) → Judges (reports_room trials records) 2 (trials ≤ records)
unfolding reports_room
reports_judges trials records = unless_judges _ 2 (le_tells trials records)

pub settings_judges : (j : Job) → Judges (settings j) 3 (Settings j)
unfolding settings
settings_judges j =
    unless_judges _ 3
    (told
    (and_tells (and_tells (and_tells (and_tells (between_tells 1 j.depth deepest) (le_tells 1 j.p)) (le_tells j.p j.q)) (le_tells j.q finest)) (le_tells j.quota largest_quota))
    (λ h. record { deep = h.0.0.0.0.0; shallow = h.0.0.0.0.1; light = h.0.0.0.1; weight = h.0.0.1; fine = h.0.1; within = h.1 })
    (λ h. (((((h.deep, h.shallow), h.light), h.weight), h.fine), h.within)))

pub trials_judges : (trials : ℕ) → Judges (trials_hold trials) 3 ((1 ≤ trials) × (trials ≤ 1000))
unfolding trials_hold
trials_judges trials = unless_judges _ 3 (between_tells 1 trials 1000)

pub scale_judges : (q : ℕ) → Judges (scale q) 3 ((1 ≤ q) × (q ≤ 16))
unfolding scale
scale_judges q = unless_judges _ 3 (between_tells 1 q 16)

-- ---- a search over the cells, which names the lowest

-- no cell below x has the fault
abbrev pub NoneBelow : (ℕ → Bool) → ℕ → Type 0
NoneBelow fault x = (k : ℕ) → k < x → fault k ≡ false

pub never : {b : Bool} → b ≡ true → b ≡ false → ⊥
never e f = let z : ◌≡◌ {A = ℕ} 0 1 = cc in omega arith

-- a test that can't pass fails
pub fails : (b : Bool) → (b ≡ true → ⊥) → b ≡ false
fails true h = absurd (h refl)
fails false h = refl

-- a test of what does not hold fails, and tests that tell the same are the same
pub refuted : {b : Bool} {F : Type 0} → Tells b F → (F → ⊥) → false ≡ b
refuted {b} t h = sym (fails b (λ e. h (t.holds e)))

pub same_told : {a b : Bool} {F H : Type 0} → Tells a F → Tells b H → (F → H) → (H → F) → a ≡ b
same_told {a} {b} s t to from = by a refl
  where
    by : (c : Bool) → a ≡ c → c ≡ b
    by true e = sym (t.shown (to (s.holds e)))
    by false e = refuted t (λ h. never (s.shown (from h)) e)

module _ (n : ℕ) (fault : ℕ → Bool) where
  low : (x : ℕ) → x < n → fault x ≡ true → lowest n fault ≤ x
  low x h e = lowest-low n fault x h (subst T (sym e) tt)

  met : lowest n fault < n → fault (lowest n fault) ≡ true
  met h = is_true _ (lowest_some n fault h)

  lowest_is : (x : ℕ) → x < n → NoneBelow fault x → fault x ≡ true → lowest n fault ≡ x
  lowest_is x h none e = by (dec_le x (lowest n fault))
    where
      by : Dec (x ≤ lowest n fault) → lowest n fault ≡ x
      by (yes l) = omega (arith, low x h e)
      by (no l) = absurd (never (met (omega arith)) (none (lowest n fault) (omega arith)))

  pub naming-names : (number x : ℕ) → x < n → NoneBelow fault x → fault x ≡ true → naming n fault number ≡ refuse_at number (P.Cell x)
  unfolding naming
  naming-names number x h none e =
      ap (λ (k : ℕ). choose (ltb k n) (refuse_at number (P.Cell k)) (Ok tt)) (lowest_is x h none e) ∙ ap (λ b. choose b (refuse_at number (P.Cell x)) (Ok tt)) (lt-ltb x n h)

  pub naming-done : (number : ℕ) → NoneBelow fault n → naming n fault number ≡ Ok tt
  unfolding naming
  naming-done number none = by (dec_le n (lowest n fault))
    where
      by : Dec (n ≤ lowest n fault) → choose (ltb (lowest n fault) n) (refuse_at number (P.Cell (lowest n fault))) (Ok tt) ≡ Ok tt
      by (yes l) = ap (λ b. choose b (refuse_at number (P.Cell (lowest n fault))) (Ok tt)) (le-ltb (lowest n fault) n l)
      by (no l) = absurd (never (met (omega arith)) (none (lowest n fault) (omega arith)))

  some_named : (number x : ℕ) → x < n → fault x ≡ true → naming n fault number ≡ refuse_at number (P.Cell (lowest n fault))
  unfolding naming
  some_named number x h e =
      ap (λ b. choose b (refuse_at number (P.Cell (lowest n fault))) (Ok tt)) (lt-ltb (lowest n fault) n (omega (arith, low x h e)))

  pub naming_none : (number : ℕ) → naming n fault number ≡ Ok tt → NoneBelow fault n
  naming_none number e k h = by (fault k) refl
    where
      by : (b : Bool) → fault k ≡ b → b ≡ false
      by true q = let w = some_named number k h q in let z : ◌≡◌ {A = ℕ} 0 1 = cc in absurd (omega arith)
      by false q = refl

-- what a search that refuses has found
pub record Named (n : ℕ) (fault : ℕ → Bool) (number x : ℕ) (v : Verdict) : Type 0 where
  pub inside : x < n
  pub faulty : fault x ≡ true
  pub first : NoneBelow fault x
  pub answer : v ≡ refuse_at number (P.Cell x)

pub naming-found : (n number : ℕ) (fault : ℕ → Bool) {r : Refusal} → naming n fault number ≡ Err r → (x : ℕ) × Named n fault number x (naming n fault number)
unfolding naming
naming-found n number fault e = by (ltb (lowest n fault) n) refl e
  where
    here : lowest n fault < n → Named n fault number (lowest n fault) (naming n fault number)
    here l =
        let found = met n fault l in
        record { inside = l; faulty = found; first = λ k h. below k h (fault k) refl; answer = some_named n fault number (lowest n fault) l found }
      where
        below : (k : ℕ) → k < lowest n fault → (b : Bool) → fault k ≡ b → b ≡ false
        below k h true q = absurd (omega (arith, low n fault k (omega arith) q))
        below k h false q = refl

    by : {r : Refusal} (b : Bool) → ltb (lowest n fault) n ≡ b → choose b (refuse_at number (P.Cell (lowest n fault))) (Ok tt) ≡ Err r
        → (x : ℕ) × Named n fault number x (naming n fault number)
    by true q e = (lowest n fault, here (ltb-true (lowest n fault) n q))
    by false q e = let z : ◌≡◌ {A = ℕ} 0 1 = cc in absurd (omega arith)

over_same : (t n : ℕ) (f g : ℕ → ℕ) → ((k : ℕ) → k < n → f k ≡ g k) → least_over t n f ≡ least_over t n g
over_same t zero f g e = refl
over_same t (suc n) f g e = ap₂ min (over_same t n f g (λ k h. e k (omega arith))) (e n (omega arith))

-- the same fault, the same answer
pub naming_same : (n number : ℕ) (fault other : ℕ → Bool) → ((k : ℕ) → k < n → fault k ≡ other k) → naming n fault number ≡ naming n other number
unfolding naming
naming_same n number fault other e =
    ap (λ (k : ℕ). choose (ltb k n) (refuse_at number (P.Cell k)) (Ok tt))
    (over_same n n (λ x. pick (fault x) x n) (λ x. pick (other x) x n) (λ k h. ap (λ b. pick b k n) (e k h)))

-- 5, as a search over the table
pub figures-names : (f : Floor) (table : List ℕ) (x : ℕ) → x < size f → NoneBelow (λ y. ltb ceiling (get_or table y 0)) x → ceiling < get_or table x 0
    → figures f table ≡ refuse_at 5 (P.Cell x)
unfolding figures
figures-names f table x h none l = naming-names (size f) (λ y. ltb ceiling (get_or table y 0)) 5 x h none (lt-ltb ceiling (get_or table x 0) l)

pub figures-done : (f : Floor) (table : List ℕ) → NoneBelow (λ y. ltb ceiling (get_or table y 0)) (size f) → figures f table ≡ Ok tt
unfolding figures
figures-done f table none = naming-done (size f) (λ y. ltb ceiling (get_or table y 0)) 5 none

-- every figure of an accepted table is within the ceiling
pub figures-accepted : (f : Floor) (table : List ℕ) → figures f table ≡ Ok tt → (x : ℕ) → x < size f → get_or table x 0 ≤ ceiling
unfolding figures
figures-accepted f table e x h = ltb-false ceiling (get_or table x 0) (naming_none (size f) (λ y. ltb ceiling (get_or table y 0)) 5 e x h)
