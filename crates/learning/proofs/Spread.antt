-- The rounds give least costs.
use Prim.Native.Nat.{ℕ, zero, suc, ◌+◌, ◌-◌, ◌*◌, ◌≤◌, ◌<◌, min}
use mathlib.Core.Path.{◌≡◌, refl, sym, ap, ap₂, ◌∙◌, subst}
use mathlib.Core.Bool.{Bool, true, false, ◌&&◌}
use mathlib.Core.Logic.{◌⊎◌, inl, inr}
use mathlib.Core.List.{List, [], ◌∷◌}
use native.Mathlib.Nat.{le_trans, le-suc_iff, add-suc, add-zero, min-eq_left, min-eq_right, mul-le-mul_left}
use native.Mathlib.Decide.{dec_le}
use native.Mathlib.Omega.{arith}
use lib.Dec.{T, eqb, eqb→eq}
use lib.ListN.{get_or, length}
use Rattle.learning.specs.Walk.{Walk, stop, move, Least, ArrivesIn}
use Rattle.learning.specs.Ground.{Ground, net_of, pick, least_over, list_of, far, through, relax, same_row, rounds, settle, spread}
use Rattle.learning.proofs.Search.{arrives_how, seek_least}
use Rattle.learning.proofs.Ceiling.{least_few, least-high}

-- the least of several numbers
pub over_top : (t n : ℕ) (f : ℕ → ℕ) → least_over t n f ≤ t
over_top t zero f = omega arith
over_top t (suc n) f = omega (arith, over_top t n f)

pub over_low : (t n : ℕ) (f : ℕ → ℕ) (i : ℕ) → i < n → least_over t n f ≤ f i
over_low t zero f i h = absurd (omega arith)
over_low t (suc n) f i h = go (λ l. over_low t n f i l) (le-suc_iff.0 h)
  where
    go : (i < n → least_over t n f ≤ f i) → (suc i ≤ n) ⊎ (suc i ≡ suc n) → min (least_over t n f) (f n) ≤ f i
    go below (inl l) = omega (arith, below l)
    go below (inr l) =
        let same : i ≡ n = omega arith in
        omega (arith, ap f same)

pub over_met : (t n : ℕ) (f : ℕ → ℕ) → least_over t n f < t → (i : ℕ) × (i < n) × (least_over t n f ≡ f i)
over_met t zero f h = absurd (omega arith)
over_met t (suc n) f h = go (λ l. over_met t n f l) (dec_le (least_over t n f) (f n))
  where
    go : (least_over t n f < t → (i : ℕ) × (i < n) × (least_over t n f ≡ f i)) → Dec (least_over t n f ≤ f n)
        → (i : ℕ) × (i < suc n) × (min (least_over t n f) (f n) ≡ f i)
    go below (yes l) = let r = below (omega arith) in (r.0, omega (arith, r.1), omega (arith, r.2))
    go below (no l) = (n, omega arith, omega arith)

-- the entries of a list made from a function
pub list_at : (n : ℕ) (f : ℕ → ℕ) (i d : ℕ) → i < n → get_or (list_of n f) i d ≡ f i
list_at zero f i d h = absurd (omega arith)
list_at (suc n) f zero d h = refl
list_at (suc n) f (suc i) d h = list_at n (λ k. f (suc k)) i d (omega arith)

pub list_length : (n : ℕ) (f : ℕ → ℕ) → length (list_of n f) ≡ n
list_length zero f = refl
list_length (suc n) f = ap suc (list_length n (λ k. f (suc k)))

list_off : (n : ℕ) (f : ℕ → ℕ) (i d : ℕ) → n ≤ i → get_or (list_of n f) i d ≡ d
list_off zero f i d h = refl
list_off (suc n) f zero d h = absurd (omega arith)
list_off (suc n) f (suc i) d h = list_off n (λ k. f (suc k)) i d (omega arith)

-- an entry that is not the default
on_list : (n : ℕ) (f : ℕ → ℕ) (x d : ℕ) → get_or (list_of n f) x d < d → (x < n) × (get_or (list_of n f) x d ≡ f x)
on_list n f x d h = go (dec_le n x)
  where
    go : Dec (n ≤ x) → (x < n) × (get_or (list_of n f) x d ≡ f x)
    go (yes l) = absurd (omega (arith, list_off n f x d l))
    go (no l) = (omega arith, list_at n f x d (omega arith))

pub both_true : (a b : Bool) → T a → T b → T (a && b)
both_true true true h k = tt
both_true true false h k = k
both_true false b h k = h

pub second-true : (a b : Bool) → T (a && b) → T b
second-true true b h = h
second-true false b h = absurd h

pub first_true : (a b : Bool) → T (a && b) → T a
first_true true b h = tt
first_true false b h = h

same_row_lem : (xs ys : List ℕ) → T (same_row xs ys) → xs ≡ ys
same_row_lem [] [] t = refl
same_row_lem [] (y ∷ ys) t = absurd t
same_row_lem (x ∷ xs) [] t = absurd t
same_row_lem (x ∷ xs) (y ∷ ys) t = ap₂ ◌∷◌ (eqb→eq x y (first_true (eqb x y) (same_row xs ys) t)) (same_row_lem xs ys (second-true (eqb x y) (same_row xs ys) t))

pub pick_true : (b : Bool) (x y : ℕ) → T b → pick b x y ≡ x
pick_true true x y h = refl
pick_true false x y h = absurd h

-- where the result is not the second number, the test holds
pub pick_first : (b : Bool) (x y : ℕ) → pick b x y < y → T b × (pick b x y ≡ x)
pick_first true x y h = (tt, refl)
pick_first false x y h = absurd (omega arith)

through-price : (t c v : ℕ) → 1 ≤ c → through t c v ≡ c + v
through-price t zero v h = absurd (omega arith)
through-price t (suc c) v h = refl

through_first : (t c v : ℕ) → through t c v < t → (1 ≤ c) × (through t c v ≡ c + v)
through_first t zero v h = absurd (omega arith)
through_first t (suc c) v h = (omega arith, refl)

module _ (G : Ground) (field start : ℕ → Bool) where
  abbrev Arr : ℕ → ℕ → Type 0
  Arr = ArrivesIn (net_of G) (λ x. T (field x)) (λ x. T (start x))

  -- what holds of the row after k rounds
  record Row (k : ℕ) (row : List ℕ) : Type 0 where
    met : (x : ℕ) → get_or row x (far G) < far G → Arr x (get_or row x (far G))
    low : (x z c n : ℕ) → x < G.cells → T (start z) → Walk (net_of G) (λ y. T (field y)) x z c n → n ≤ k → get_or row x (far G) ≤ c
    off : (x : ℕ) → G.cells ≤ x → get_or row x (far G) ≡ far G

  row_first : Row 0 (rounds G field start 0)
  row_first = record {
    met = first_met;
    low = first_low;
    off = λ x h. list_off G.cells _ x (far G) h;
  }
    where
      first_met : (x : ℕ) → get_or (rounds G field start 0) x (far G) < far G → Arr x (get_or (rounds G field start 0) x (far G))
      first_met x h =
          let (l, e) = on_list G.cells (λ y. pick (field y && start y) 0 (far G)) x (far G) h in
          let (t, f) = pick_first (field x && start x) 0 (far G) (omega (arith, e)) in
          subst (Arr x) (sym (e ∙ f)) (x, second-true (field x) (start x) t, (0, stop (first_true (field x) (start x) t)))

      first_low : (x z c n : ℕ) → x < G.cells → T (start z) → Walk (net_of G) (λ y. T (field y)) x z c n → n ≤ 0 → get_or (rounds G field start 0) x (far G) ≤ c
      first_low x z c n h t (stop s) l =
          omega (arith, list_at G.cells (λ y. pick (field y && start y) 0 (far G)) x (far G) h, pick_true (field x && start x) 0 (far G) (both_true (field x) (start x) s t))
      first_low x z c n h t (move s e w) l = absurd (omega arith)

  module _ {k : ℕ} {row : List ℕ} (R : Row k row) where
    round : List ℕ
    round = list_of G.cells (relax G field row)

    by : ℕ → ℕ → ℕ
    by x b = through (far G) (G.price x b) (get_or row b (far G))

    -- the least of the two is one of them
    either : (x : ℕ) → T (field x) → min (get_or row x (far G)) (least_over (far G) G.cells (by x)) < far G
        → Arr x (min (get_or row x (far G)) (least_over (far G) G.cells (by x)))
    unfolding by
    either x t h = go (dec_le (get_or row x (far G)) (least_over (far G) G.cells (by x)))
      where
        go : Dec (get_or row x (far G) ≤ least_over (far G) G.cells (by x)) → Arr x (min (get_or row x (far G)) (least_over (far G) G.cells (by x)))
        go (yes l) = subst (Arr x) (sym (min-eq_left l)) (R.met x (omega arith))
        go (no l) =
            let (b, i, e) = over_met (far G) G.cells (by x) (omega arith) in
            let (c, f) = through_first (far G) (G.price x b) (get_or row b (far G)) (omega (arith, e)) in
            let (z, g, (n, w)) = R.met b (omega (arith, e, f)) in
            subst (Arr x) (sym (min-eq_right (omega arith) ∙ e ∙ f)) (z, g, (suc n, move {z = z} {n = n} t (c, refl) w))

    next_met : (x : ℕ) → get_or round x (far G) < far G → Arr x (get_or round x (far G))
    unfolding round by
    next_met x h =
        let (l, e) = on_list G.cells (relax G field row) x (far G) h in
        let (t, f) = pick_first (field x) (min (get_or row x (far G)) (least_over (far G) G.cells (by x))) (far G) (omega (arith, e)) in
        subst (Arr x) (sym (e ∙ f)) (either x t (omega (arith, e, f)))

    relax-low : (x : ℕ) → x < G.cells → T (field x) → get_or round x (far G) ≡ min (get_or row x (far G)) (least_over (far G) G.cells (by x))
    unfolding round by
    relax-low x h t = list_at G.cells (relax G field row) x (far G) h ∙ pick_true (field x) _ (far G) t

    next_low : (x z c n : ℕ) → x < G.cells → T (start z) → Walk (net_of G) (λ y. T (field y)) x z c n → n ≤ suc k → get_or round x (far G) ≤ c
    unfolding by
    next_low x z c n h t (stop s) l = omega (arith, relax-low x h s, R.low x x 0 0 h t (stop s) (omega arith))
    next_low x z c n h t (move {b = b} {c = d} {k = r} {n = m} s e w) l =
        let there = R.low b z r m (G.inside b x (omega (arith, e.0, e.1, G.same x b))) t w (omega arith) in
        omega (
          arith,
          relax-low x h s,
          over_low (far G) G.cells (by x) b (G.inside b x (omega (arith, e.0, e.1, G.same x b))),
          through-price (far G) (G.price x b) (get_or row b (far G)) (omega (arith, e.0, e.1)),
          there,
          e.1,
        )

    row_next : Row (suc k) (list_of G.cells (relax G field row))
    unfolding round
    row_next = record { met = next_met; low = next_low; off = λ x h. list_off G.cells (relax G field row) x (far G) h }

  row_all : (k : ℕ) → Row k (rounds G field start k)
  row_all zero = row_first
  row_all (suc k) = row_next (row_all k)

  -- a round that changes nothing is the last that counts
  still : (i : ℕ) → rounds G field start (suc i) ≡ rounds G field start i → (k : ℕ) → rounds G field start (i + k) ≡ rounds G field start i
  still i e zero = ap (rounds G field start) (add-zero i)
  still i e (suc k) = ap (rounds G field start) (add-suc i k) ∙ ap (λ row. list_of G.cells (relax G field row)) (still i e k) ∙ e

  settle-rounds : (k i : ℕ) → settle G field start k (rounds G field start i) ≡ rounds G field start (i + k)
  unfolding settle
  settle-rounds zero i = ap (rounds G field start) (sym (add-zero i))
  settle-rounds (suc k) i = go (λ j. settle-rounds k j) (same_row (rounds G field start (suc i)) (rounds G field start i)) (λ t. same_row_lem _ _ t)
    where
      go : ((j : ℕ) → settle G field start k (rounds G field start j) ≡ rounds G field start (j + k))
          → (b : Bool) → (T b → rounds G field start (suc i) ≡ rounds G field start i)
          → elim b [ true ↦ rounds G field start i | false ↦ settle G field start k (rounds G field start (suc i)) ] ≡ rounds G field start (i + suc k)
      go rest true f = sym (still i (f tt) (suc k))
      go rest false f = let e : suc i + k ≡ i + suc k = omega arith in rest (suc i) ∙ ap (rounds G field start) e

  spread-rounds : spread G field start ≡ rounds G field start G.cells
  unfolding spread
  spread-rounds = let e : 0 + G.cells ≡ G.cells = omega arith in settle-rounds G.cells 0 ∙ ap (rounds G field start) e

  -- after as many rounds as there are cells: the least cost, where a start can be reached at all
  module _ (starts : (x : ℕ) → T (start x) → x < G.cells) where
    pub arr-inside : (x c : ℕ) → Arr x c → x < G.cells
    arr-inside x c (z, g, (n, w)) = go g w
      where
        go : {a y k m : ℕ} → T (start y) → Walk (net_of G) (λ v. T (field v)) a y k m → a < G.cells
        go g (stop {a = a} s) = starts a g
        go g (move {a = a} {b = b} s e w) = G.inside a b (omega (arith, e.0, e.1))

    price-high : (a b c : ℕ) → (net_of G).Edge a b c → c ≤ G.dearest
    price-high a b c e = omega (arith, e.1, G.high a b)

    rounds-least : (x c : ℕ) → Arr x c → Least (Arr x) (get_or (rounds G field start G.cells) x (far G)) × (get_or (rounds G field start G.cells) x (far G) ≤ G.dearest * (G.cells - 1))
    rounds-least x c a =
        let some = seek_least (arrives_how G field start starts x) (suc c) c a (omega arith) in
        let R = row_all G.cells in
        let (z, g, (n, w)) = some.met in
        let few = least_few G.cells arr-inside x _ some in
        let short = R.low x z _ n (arr-inside x c a) g w (omega arith) in
        let high = least-high G.cells G.dearest arr-inside price-high x _ some in
        let near = le_trans short high in
        let less : get_or (rounds G field start G.cells) x (far G) < far G = omega (arith, near, mul-le-mul_left G.dearest (fewer G.cells)) in
        (record { met = R.met x less; low = λ u b. le_trans short (some.low u b) }, near)
      where
        fewer : (k : ℕ) → k - 1 ≤ k
        fewer k = omega arith

    pub spread-least : (x c : ℕ) → Arr x c → Least (Arr x) (get_or (spread G field start) x (far G)) × (get_or (spread G field start) x (far G) ≤ G.dearest * (G.cells - 1))
    spread-least x c a = rw spread-rounds (rounds-least x c a)

    pub spread-met : (x : ℕ) → get_or (spread G field start) x (far G) < far G → Arr x (get_or (spread G field start) x (far G))
    spread-met x h = rw spread-rounds ((row_all G.cells).met x (rw spread-rounds at h))
