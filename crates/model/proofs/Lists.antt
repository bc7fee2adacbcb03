-- Tests over lists tell facts about each place: every entry passes, one does, an entry stands there, none stands there twice, each is above the one before.
-- Assumes nothing.
use Prim.Native.Nat.{ℕ, zero, suc, ◌<◌}
use mathlib.Core.Path.{◌≡◌, refl, sym, ap, ◌∙◌}
use mathlib.Core.Bool.{Bool, true, false, not, ◌&&◌, ◌||◌}
use mathlib.Core.List.{List, [], ◌∷◌}
use native.Mathlib.Omega.{arith}
use borrow.Author.Tests.{eqb-true, eqb-false, eq-eqb, ne_eqb, not-true, lt-ltb, ltb-true}
use lib.Dec.{eqb}
use lib.ListN.{length, get_or}
use Rattle.model.specs.Basics.{every, any, member, distinct, rising}
use Rattle.model.proofs.Accepted.{or_true, Tells, and_tells, told, never, fails}

same_tells : {a b : Bool} {F : Type 0} → a ≡ b → Tells b F → Tells a F
same_tells e t = record { holds = λ h. t.holds (sym e ∙ h); shown = λ f. e ∙ t.shown f }

pub ne_tells : (x y : ℕ) → Tells (not (eqb x y)) (x ≡ y → ⊥)
ne_tells x y = record { holds = λ e. eqb-false x y (not-true (eqb x y) e); shown = λ h. ap not (ne_eqb x y h) }

pub every_tells : (test : ℕ → Bool) {P : ℕ → Type 0} → ((x : ℕ) → Tells (test x) (P x)) → (xs : List ℕ)
    → Tells (every test xs) ((k : ℕ) → k < length xs → P (get_or xs k 0))
unfolding every
every_tells test t [] = record { holds = λ e k h. absurd (omega arith); shown = λ h. refl }
every_tells test {P} t (x ∷ xs) = told (and_tells (t x) (every_tells test t xs)) at (λ h. (h 0 (omega arith), λ k l. h (suc k) (omega arith)))
  where
    at : P x × ((k : ℕ) → k < length xs → P (get_or xs k 0)) → (k : ℕ) → k < suc (length xs) → P (get_or (x ∷ xs) k 0)
    at h zero l = h.0
    at h (suc k) l = h.1 k (omega arith)

not_or : (a b : Bool) → not (a || b) ≡ (not a && not b)
not_or true b = refl
not_or false b = refl

none_tells : (x : ℕ) (xs : List ℕ) → Tells (not (member x xs)) ((k : ℕ) → k < length xs → x ≡ get_or xs k 0 → ⊥)
unfolding member
none_tells x [] = record { holds = λ e k h. absurd (omega arith); shown = λ h. refl }
none_tells x (y ∷ ys) =
    told (same_tells (not_or (eqb x y) (member x ys)) (and_tells (ne_tells x y) (none_tells x ys))) at (λ h. (h 0 (omega arith), λ k l. h (suc k) (omega arith)))
  where
    at : (x ≡ y → ⊥) × ((k : ℕ) → k < length ys → x ≡ get_or ys k 0 → ⊥) → (k : ℕ) → k < suc (length ys) → x ≡ get_or (y ∷ ys) k 0 → ⊥
    at h zero l = h.0
    at h (suc k) l = h.1 k (omega arith)

-- what stands in a list at a place is a member of it, and where it stands nowhere it is none
pub member_at : (x : ℕ) (xs : List ℕ) (k : ℕ) → k < length xs → x ≡ get_or xs k 0 → member x xs ≡ true
member_at x xs k h e = by (member x xs) refl
  where
    by : (b : Bool) → member x xs ≡ b → b ≡ true
    by true i = refl
    by false i = absurd ((none_tells x xs).holds (ap not i) k h e)

pub no_member : (x : ℕ) (xs : List ℕ) → ((k : ℕ) → k < length xs → x ≡ get_or xs k 0 → ⊥) → member x xs ≡ false
no_member x xs h = by (member x xs) ((none_tells x xs).shown h)
  where
    by : (b : Bool) → not b ≡ true → b ≡ false
    by true i = sym i
    by false i = refl

pub distinct_tells : (xs : List ℕ) → Tells (distinct xs) ((a b : ℕ) → a < b → b < length xs → get_or xs a 0 ≡ get_or xs b 0 → ⊥)
unfolding distinct
distinct_tells [] = record { holds = λ e a b h l. absurd (omega arith); shown = λ h. refl }
distinct_tells (x ∷ xs) =
    told (and_tells (none_tells x xs) (distinct_tells xs)) at (λ h. (λ k l. h 0 (suc k) (omega arith) (omega arith), λ a b l m. h (suc a) (suc b) (omega arith) (omega arith)))
  where
    at : ((k : ℕ) → k < length xs → x ≡ get_or xs k 0 → ⊥) × ((a b : ℕ) → a < b → b < length xs → get_or xs a 0 ≡ get_or xs b 0 → ⊥)
        → (a b : ℕ) → a < b → b < suc (length xs) → get_or (x ∷ xs) a 0 ≡ get_or (x ∷ xs) b 0 → ⊥
    at h a zero l m = absurd (omega arith)
    at h zero (suc b) l m = h.0 b (omega arith)
    at h (suc a) (suc b) l m = h.1 a b (omega arith) (omega arith)

-- the place where a member stands
pub member-place : (x : ℕ) (xs : List ℕ) → member x xs ≡ true → (k : ℕ) × (k < length xs) × (x ≡ get_or xs k 0)
unfolding member
member-place x [] e = let z : ◌≡◌ {A = ℕ} 0 1 = cc in absurd (omega arith)
member-place x (y ∷ ys) e = by (member-place x ys) (eqb x y) refl e
  where
    by : (member x ys ≡ true → (k : ℕ) × (k < length ys) × (x ≡ get_or ys k 0)) → (b : Bool) → eqb x y ≡ b → (b || member x ys) ≡ true
        → (k : ℕ) × (k < suc (length ys)) × (x ≡ get_or (y ∷ ys) k 0)
    by rest true i h = (0, omega arith, eqb-true x y i)
    by rest false i h = let (k, l, g) = rest h in (suc k, omega arith, g)

-- one entry passes where one at a place does, and none does where none does at any
pub any_at : (test : ℕ → Bool) (xs : List ℕ) (k : ℕ) → k < length xs → test (get_or xs k 0) ≡ true → any test xs ≡ true
unfolding any
any_at test [] k h e = absurd (omega arith)
any_at test (x ∷ xs) zero h e = ap (λ b. b || any test xs) e
any_at test (x ∷ xs) (suc k) h e = ap (λ b. test x || b) (any_at test xs k (omega arith) e) ∙ or_true (test x)

pub any_none : (test : ℕ → Bool) (xs : List ℕ) → ((k : ℕ) → k < length xs → test (get_or xs k 0) ≡ false) → any test xs ≡ false
unfolding any
any_none test [] h = refl
any_none test (x ∷ xs) h = rw (h 0 (omega arith)) (any_none test xs (λ k l. h (suc k) (omega arith)))

-- where one passes there is a member that does, and where none does no member does
pub any_some : (test : ℕ → Bool) (xs : List ℕ) → any test xs ≡ true → (x : ℕ) × (member x xs ≡ true) × (test x ≡ true)
unfolding any member
any_some test [] e = let z : ◌≡◌ {A = ℕ} 0 1 = cc in absurd (omega arith)
any_some test (x ∷ xs) e = by (any_some test xs) (test x) refl e
  where
    by : (any test xs ≡ true → (y : ℕ) × (member y xs ≡ true) × (test y ≡ true)) → (b : Bool) → test x ≡ b → (b || any test xs) ≡ true
        → (y : ℕ) × (member y (x ∷ xs) ≡ true) × (test y ≡ true)
    by rest true i h = (x, ap (λ b. b || member x xs) (eq-eqb x x refl), i)
    by rest false i h = let (y, m, t) = rest h in (y, ap (λ b. eqb y x || b) m ∙ or_true (eqb y x), t)

pub any_fails : (test : ℕ → Bool) (xs : List ℕ) → any test xs ≡ false → (x : ℕ) → member x xs ≡ true → test x ≡ false
any_fails test xs e x m =
    let (k, l, i) = member-place x xs m in
    fails (test x) (λ t. never (any_at test xs k l (ap test (sym i) ∙ t)) e)

-- each is above the one before
abbrev pub Rises : List ℕ → Type 0
Rises xs = (k : ℕ) → suc k < length xs → get_or xs k 0 < get_or xs (suc k) 0

pub rising_tells : (xs : List ℕ) → Tells (rising xs) (Rises xs)
unfolding rising
rising_tells [] = record { holds = λ e k h. absurd (omega arith); shown = λ h. refl }
rising_tells (x ∷ []) = record { holds = λ e k h. absurd (omega arith); shown = λ h. refl }
rising_tells (x ∷ y ∷ ys) =
    told (and_tells (record { holds = ltb-true x y; shown = lt-ltb x y }) (rising_tells (y ∷ ys))) at (λ h. (h 0 (omega arith), λ k l. h (suc k) (omega arith)))
  where
    at : (x < y) × Rises (y ∷ ys) → Rises (x ∷ y ∷ ys)
    at h zero l = h.0
    at h (suc k) l = h.1 k (omega arith)
