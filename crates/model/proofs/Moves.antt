-- The eight moves and the price of a move: where a move leads, what it costs, the way back, and that each price is one move's.
-- Code knows movement by these laws alone. Assumes nothing.
use mathlib.Core.Path.{◌≡◌, refl, ap, ap₂, sym, ◌∙◌, subst}
use mathlib.Core.Logic.{◌⊎◌, inl, inr}
use mathlib.Core.List.{[], ◌∷◌}
use mathlib.Core.Bool.{Bool, true, false, ◌&&◌}
use Prim.Native.Nat.{ℕ, zero, suc, ◌+◌, ◌-◌, ◌*◌, ◌%◌, ◌≤◌, ◌<◌}
use native.Mathlib.Omega.{arith}
use native.Mathlib.Nat.{mod-lt}
use lib.Dec.{T, leb, eqb, lit≤, lit<}
use lib.ListN.{get_or}
use borrow.Author.Tests.{leb-true, eqb-true, le-leb, eq-eqb}
use Rattle.learning.specs.Ground.{pick}
use Rattle.learning.specs.Look.{lowest}
use Rattle.learning.proofs.Look.{lowest-low, lowest-met}
use Rattle.model.specs.Floor.{Floor, Sized, size, column, row, free, apart, doubled, slowly, tariff, fare, corner, clear, price, east, south, ahead, inside, allowed, heading, opposite}
use Rattle.model.specs.Floor.{straight, diagonal}
use Rattle.model.specs.Grounds.{clear_same, clear-corner, fare_between, price_same, price-clear, price-free, free-inside}
use Rattle.model.proofs.Cells.{cell-lt, cells-le, row_lt, col_at, row_at, cell_at}

-- tests
pub is_true : (b : Bool) → T b → b ≡ true
is_true true t = refl
is_true false t = absurd t

pub both : (a b : Bool) → (a && b) ≡ true → (a ≡ true) × (b ≡ true)
both true b e = (refl, e)
both false b e = absurd (let z : ◌≡◌ {A = ℕ} 0 1 = cc in omega arith)

pub both_of : (a b : Bool) → a ≡ true → b ≡ true → (a && b) ≡ true
both_of a b p q = ap₂ ◌&&◌ p q

-- a free cell is on the floor, which has at most 4,096 cells
pub free-below : (f : Floor) (x : ℕ) → free f x ≡ true → x < size f
free-below f x e = free-inside f x (subst T (sym e) tt)

pub sized-cells : {f : Floor} → Sized f → size f ≤ 4096
sized-cells {f} z = cells-le f.width f.height z.narrow z.low

pub free_few : (f : Floor) (x : ℕ) → Sized f → free f x ≡ true → x < 4096
free_few f x z e = omega (arith, free-below f x e, sized-cells z)

-- what holds of each of the eight moves
pub all8 : (P : ℕ → Type 0) → P 0 → P 1 → P 2 → P 3 → P 4 → P 5 → P 6 → P 7 → (m : ℕ) → m < 8 → P m
all8 P a b c d e f g h zero l = a
all8 P a b c d e f g h (suc zero) l = b
all8 P a b c d e f g h (suc (suc zero)) l = c
all8 P a b c d e f g h (suc (suc (suc zero))) l = d
all8 P a b c d e f g h (suc (suc (suc (suc zero)))) l = e
all8 P a b c d e f g h (suc (suc (suc (suc (suc zero))))) l = f
all8 P a b c d e f g h (suc (suc (suc (suc (suc (suc zero)))))) l = g
all8 P a b c d e f g h (suc (suc (suc (suc (suc (suc (suc zero))))))) l = h
all8 P a b c d e f g h (suc (suc (suc (suc (suc (suc (suc (suc m)))))))) l = absurd (omega arith)

pub east-le : (m : ℕ) → m < 8 → east m ≤ 2
east-le = all8 (λ m. east m ≤ 2) (lit≤ tt) (lit≤ tt) (lit≤ tt) (lit≤ tt) (lit≤ tt) (lit≤ tt) (lit≤ tt) (lit≤ tt)

pub south-le : (m : ℕ) → m < 8 → south m ≤ 2
south-le = all8 (λ m. south m ≤ 2) (lit≤ tt) (lit≤ tt) (lit≤ tt) (lit≤ tt) (lit≤ tt) (lit≤ tt) (lit≤ tt) (lit≤ tt)

-- a move is a diagonal one, its number being odd, or goes along its column or along its row
pub odd_or_along : (m : ℕ) → m < 8 → (m % 2 ≡ 1) ⊎ ((east m ≡ 1) ⊎ (south m ≡ 1))
odd_or_along =
    all8 (λ m. (m % 2 ≡ 1) ⊎ ((east m ≡ 1) ⊎ (south m ≡ 1))) (inr (inl refl)) (inl refl) (inr (inr refl)) (inl refl) (inr (inl refl)) (inl refl) (inr (inr refl)) (inl refl)

-- a straight move costs 10, a diagonal one 14, where neither end is slow
abbrev pub toll : ℕ → ℕ
toll m = get_or (straight ∷ diagonal ∷ straight ∷ diagonal ∷ straight ∷ diagonal ∷ straight ∷ diagonal ∷ []) m 0

toll_some : (m : ℕ) → m < 8 → 1 ≤ toll m
toll_some = all8 (λ m. 1 ≤ toll m) (lit≤ tt) (lit≤ tt) (lit≤ tt) (lit≤ tt) (lit≤ tt) (lit≤ tt) (lit≤ tt) (lit≤ tt)

pub doubled_some : (s : Bool) (n : ℕ) → 1 ≤ n → 1 ≤ doubled s n
doubled_some true n h = omega arith
doubled_some false n h = h

-- by the columns and rows moved
toll-tariff : (m : ℕ) → m < 8 → tariff (apart 1 (east m) + apart 1 (south m)) ≡ toll m
toll-tariff = all8 (λ m. tariff (apart 1 (east m) + apart 1 (south m)) ≡ toll m) refl refl refl refl refl refl refl refl

-- the move that goes back goes as far the other way
pub opposite-lt : (m : ℕ) → m < 8 → opposite m < 8
opposite-lt = all8 (λ m. opposite m < 8) (lit< tt) (lit< tt) (lit< tt) (lit< tt) (lit< tt) (lit< tt) (lit< tt) (lit< tt)

opposite-east : (m : ℕ) → m < 8 → east (opposite m) + east m ≡ 2
opposite-east = all8 (λ m. east (opposite m) + east m ≡ 2) refl refl refl refl refl refl refl refl

opposite-south : (m : ℕ) → m < 8 → south (opposite m) + south m ≡ 2
opposite-south = all8 (λ m. south (opposite m) + south m ≡ 2) refl refl refl refl refl refl refl refl

-- a move is known by where it goes, and each way but none is a move's
move_of : ℕ → ℕ → ℕ
move_of e s = get_or (7 ∷ 0 ∷ 1 ∷ 6 ∷ 8 ∷ 2 ∷ 5 ∷ 4 ∷ 3 ∷ []) (s * 3 + e) 0

moved : (m : ℕ) → m < 8 → move_of (east m) (south m) ≡ m
unfolding move_of
moved = all8 (λ m. move_of (east m) (south m) ≡ m) refl refl refl refl refl refl refl refl

move_for : (e s : ℕ) → e ≤ 2 → s ≤ 2 → 1 ≤ apart 1 e + apart 1 s → (m : ℕ) × (m < 8) × (east m ≡ e) × (south m ≡ s)
move_for zero zero a b c = (7, lit< tt, refl, refl)
move_for zero (suc zero) a b c = (6, lit< tt, refl, refl)
move_for zero (suc (suc zero)) a b c = (5, lit< tt, refl, refl)
move_for (suc zero) zero a b c = (0, lit< tt, refl, refl)
move_for (suc zero) (suc zero) a b c = absurd (omega arith)
move_for (suc zero) (suc (suc zero)) a b c = (4, lit< tt, refl, refl)
move_for (suc (suc zero)) zero a b c = (1, lit< tt, refl, refl)
move_for (suc (suc zero)) (suc zero) a b c = (2, lit< tt, refl, refl)
move_for (suc (suc zero)) (suc (suc zero)) a b c = (3, lit< tt, refl, refl)
move_for (suc (suc (suc e))) s a b c = absurd (omega arith)
move_for zero (suc (suc (suc s))) a b c = absurd (omega arith)
move_for (suc zero) (suc (suc (suc s))) a b c = absurd (omega arith)
move_for (suc (suc zero)) (suc (suc (suc s))) a b c = absurd (omega arith)

-- the move m from x stays on the floor
pub record Inside (f : Floor) (x m : ℕ) : Type 0 where
  pub west : 1 ≤ column f x + east m
  pub east : column f x + east m ≤ f.width
  pub north : 1 ≤ row f x + south m
  pub south : row f x + south m ≤ f.height

module _ (f : Floor) (x m : ℕ) where
  abbrev a : Bool
  a = leb 1 (column f x + east m)

  abbrev b : Bool
  b = leb (column f x + east m) f.width

  abbrev c : Bool
  c = leb 1 (row f x + south m)

  abbrev d : Bool
  d = leb (row f x + south m) f.height

  inside_of : inside f x m ≡ true → Inside f x m
  unfolding inside
  inside_of e =
      let p = both (a && b && c) d e in
      let q = both (a && b) c p.0 in
      let r = both a b q.0 in
      record { west = leb-true 1 _ r.0; east = leb-true _ f.width r.1; north = leb-true 1 _ q.1; south = leb-true _ f.height p.1 }

  inside-true : Inside f x m → inside f x m ≡ true
  unfolding inside
  inside-true i =
      both_of (a && b && c) d (both_of (a && b) c (both_of a b (le-leb 1 _ i.west) (le-leb _ f.width i.east)) (le-leb 1 _ i.north)) (le-leb _ f.height i.south)

  -- where it leads
  pub ahead-lt : Inside f x m → ahead f x m < size f
  unfolding ahead
  ahead-lt i = cell-lt f.width f.height (column f x + east m - 1) (row f x + south m - 1) (omega (arith, i.west, i.east)) (omega (arith, i.north, i.south))

  ahead-column : Inside f x m → column f (ahead f x m) ≡ column f x + east m - 1
  unfolding ahead
  ahead-column i = col_at f.width (column f x + east m - 1) (row f x + south m - 1) (omega (arith, i.west, i.east))

  ahead-row : Inside f x m → row f (ahead f x m) ≡ row f x + south m - 1
  unfolding ahead
  ahead-row i = row_at f.width (column f x + east m - 1) (row f x + south m - 1) (omega (arith, i.west, i.east))

  -- the straight cells beside it, and of a straight move its two ends: in the row of x, and in its column
  pub corner-beside : Inside f x m → corner f x (ahead f x m) ≡ row f x * f.width + (column f x + east m - 1)
  corner-beside i = ap (λ c. row f x * f.width + c) (ahead-column i)

  pub corner-across : Inside f x m → corner f (ahead f x m) x ≡ (row f x + south m - 1) * f.width + column f x
  corner-across i = ap (λ r. r * f.width + column f x) (ahead-row i)

-- ---- the price: here and in `Grounds` alone it is unfolded, and nowhere else is it asked which cells must be free for it

-- of a clear way
clear-fare : (t s : Bool) (dx dy : ℕ) → t ≡ true → dx ≤ 1 → dy ≤ 1 → fare t s dx dy ≡ doubled s (tariff (dx + dy))
clear-fare t s dx dy e p q =
    ap (λ k. pick k (doubled s (tariff (dx + dy))) 0) (both_of (leb dx 1 && leb dy 1) t (both_of (leb dx 1) (leb dy 1) (le-leb dx 1 p) (le-leb dy 1 q)) e)

some_tariff : (n : ℕ) → 1 ≤ tariff n → 1 ≤ n
some_tariff zero h = h
some_tariff (suc n) h = omega arith

picked : (t s : Bool) (n : ℕ) → 1 ≤ pick t (doubled s n) 0 → (t ≡ true) × (1 ≤ n)
picked true true n h = (refl, omega arith)
picked true false n h = (refl, h)
picked false s n h = absurd (omega arith)

-- what a cost c of a move says, be it slow or not: the cells are a column and a row apart at most, and it is the tariff of that, doubled where the move is slow
pub record Priced (f : Floor) (s : Bool) (a b c : ℕ) : Type 0 where
  pub columns : apart (column f a) (column f b) ≤ 1
  pub rows : apart (row f a) (row f b) ≤ 1
  pub some : 1 ≤ apart (column f a) (column f b) + apart (row f a) (row f b)
  pub cost : c ≡ doubled s (tariff (apart (column f a) (column f b) + apart (row f a) (row f b)))

module _ (f : Floor) (a b : ℕ) where
  abbrev dx : ℕ
  dx = apart (column f a) (column f b)

  abbrev dy : ℕ
  dy = apart (row f a) (row f b)

  pub fared : (t s : Bool) → 1 ≤ fare_between f t s a b → Priced f s a b (fare_between f t s a b)
  fared t s h =
      let p = picked (leb dx 1 && leb dy 1 && t) s (tariff (dx + dy)) h in
      let q = both (leb dx 1 && leb dy 1) t p.0 in
      let r = both (leb dx 1) (leb dy 1) q.0 in
      let x = leb-true dx 1 r.0 in
      let y = leb-true dy 1 r.1 in
      record { columns = x; rows = y; some = some_tariff (dx + dy) p.1; cost = clear-fare t s dx dy q.1 x y }

  pub priced : 1 ≤ price f a b → Priced f (slowly f a b) a b (price f a b)
  unfolding price
  priced = fared (clear f a b) (slowly f a b)

  clear-price : clear f a b ≡ true → dx ≤ 1 → dy ≤ 1 → price f a b ≡ doubled (slowly f a b) (tariff (dx + dy))
  unfolding price
  clear-price = clear-fare (clear f a b) (slowly f a b) dx dy

near_one : (x e : ℕ) → 1 ≤ x + e → apart x (x + e - 1) ≡ apart 1 e
near_one x e h = omega arith

-- the way from x to y, counted so that 1 is not at all
abbrev way : ℕ → ℕ → ℕ
way x y = y + 1 - x

way_apart : (x y : ℕ) → apart x y ≤ 1 → apart 1 (way x y) ≡ apart x y
way_apart x y h = omega arith

way-le : (x y : ℕ) → apart x y ≤ 1 → way x y ≤ 2
way-le x y h = omega arith

way_to : (x y : ℕ) → apart x y ≤ 1 → x + way x y ≡ y + 1
way_to x y h = omega arith

near_le : (e : ℕ) → e ≤ 2 → apart 1 e ≤ 1
near_le e h = omega arith

module _ (f : Floor) (z : Sized f) where
  -- the price of a move is its toll, doubled where it begins or ends in a slow cell, where the way is clear
  ahead_columns : (x m : ℕ) → Inside f x m → apart (column f x) (column f (ahead f x m)) ≡ apart 1 (east m)
  ahead_columns x m i = ap (apart (column f x)) (ahead-column f x m i) ∙ near_one (column f x) (east m) i.west

  ahead-rows : (x m : ℕ) → Inside f x m → apart (row f x) (row f (ahead f x m)) ≡ apart 1 (south m)
  ahead-rows x m i = ap (apart (row f x)) (ahead-row f x m i) ∙ near_one (row f x) (south m) i.north

  ahead-toll : (x m : ℕ) → m < 8 → Inside f x m → tariff (apart (column f x) (column f (ahead f x m)) + apart (row f x) (row f (ahead f x m))) ≡ toll m
  ahead-toll x m l i = ap₂ (λ dx dy. tariff (dx + dy)) (ahead_columns x m i) (ahead-rows x m i) ∙ toll-tariff m l

  pub price-toll : (x m : ℕ) → m < 8 → Inside f x m → 1 ≤ price f x (ahead f x m) → price f x (ahead f x m) ≡ doubled (slowly f x (ahead f x m)) (toll m)
  price-toll x m l i h = (priced f x (ahead f x m) h).cost ∙ ap (doubled (slowly f x (ahead f x m))) (ahead-toll x m l i)

  pub price-ahead : (x m : ℕ) → m < 8 → Inside f x m → clear f x (ahead f x m) ≡ true → price f x (ahead f x m) ≡ doubled (slowly f x (ahead f x m)) (toll m)
  price-ahead x m l i q =
      clear-price f x (ahead f x m) q (omega (arith, ahead_columns x m i, near_le (east m) (east-le m l))) (omega (arith, ahead-rows x m i, near_le (south m) (south-le m l)))
      ∙ ap (doubled (slowly f x (ahead f x m))) (ahead-toll x m l i)

  -- a move is allowed just where it stays on the floor and has a price
  pub some_allowed : (x m : ℕ) → Inside f x m → 1 ≤ price f x (ahead f x m) → allowed f x m ≡ true
  unfolding allowed
  some_allowed x m i h = both_of (inside f x m) (leb 1 (price f x (ahead f x m))) (inside-true f x m i) (le-leb 1 (price f x (ahead f x m)) h)

  pub allowed-true : (x m : ℕ) → m < 8 → Inside f x m → clear f x (ahead f x m) ≡ true → allowed f x m ≡ true
  allowed-true x m l i q = some_allowed x m i (omega (arith, price-ahead x m l i q, doubled_some (slowly f x (ahead f x m)) (toll m) (toll_some m l)))

  pub allowed-inside : (x m : ℕ) → allowed f x m ≡ true → Inside f x m
  unfolding allowed
  allowed-inside x m e = inside_of f x m (both (inside f x m) (leb 1 (price f x (ahead f x m))) e).0

  pub allowed_some : (x m : ℕ) → allowed f x m ≡ true → 1 ≤ price f x (ahead f x m)
  unfolding allowed
  allowed_some x m e = leb-true 1 _ (both (inside f x m) (leb 1 (price f x (ahead f x m))) e).1

  pub allowed-free : (x m : ℕ) → allowed f x m ≡ true → free f (ahead f x m) ≡ true
  allowed-free x m e = is_true _ (price-free f (ahead f x m) x (omega (arith, price_same f x (ahead f x m), allowed_some x m e)))

  pub allowed_corners : (x m : ℕ) → allowed f x m ≡ true → (free f (corner f x (ahead f x m)) ≡ true) × (free f (corner f (ahead f x m) x) ≡ true)
  allowed_corners x m e =
      let y = ahead f x m in
      let c = price-clear f x y (allowed_some x m e) in
      (is_true _ (clear-corner f x y c), is_true _ (clear-corner f y x (subst T (clear_same f x y) c)))

  -- the way back
  module _ (x m : ℕ) (l : m < 8) (e : allowed f x m ≡ true) where
    abbrev y : ℕ
    y = ahead f x m

    i : Inside f x m
    i = allowed-inside x m e

    here : free f x ≡ true
    here = is_true _ (price-free f x y (allowed_some x m e))

    col_lt : column f x < f.width
    col_lt = mod-lt x z.wide

    line-lt : row f x < f.height
    line-lt = row_lt f.width f.height x z.wide (free-below f x here)

    back-column : column f y + east (opposite m) ≡ column f x + 1
    back-column = omega (arith, ahead-column f x m i, opposite-east m l, i.west)

    back-row : row f y + south (opposite m) ≡ row f x + 1
    back-row = omega (arith, ahead-row f x m i, opposite-south m l, i.north)

    back-ahead : ahead f y (opposite m) ≡ x
    unfolding ahead
    back-ahead =
        let p : column f y + east (opposite m) - 1 ≡ column f x = omega (arith, back-column) in
        let q : row f y + south (opposite m) - 1 ≡ row f x = omega (arith, back-row) in
        ap₂ (λ r c. r * f.width + c) q p ∙ cell_at f.width x

    back_inside : Inside f y (opposite m)
    back_inside =
        record { west = omega (arith, back-column); east = omega (arith, back-column, col_lt); north = omega (arith, back-row); south = omega (arith, back-row, line-lt) }

    pub opposite-ahead : ahead f (ahead f x m) (opposite m) ≡ x
    opposite-ahead = back-ahead

    pub opposite-allowed : allowed f (ahead f x m) (opposite m) ≡ true
    opposite-allowed = some_allowed y (opposite m) back_inside (omega (arith, ap (price f y) back-ahead, price_same f x y, allowed_some x m e))

  -- different moves lead to different cells
  pub ahead_one : (x m m' : ℕ) → m < 8 → m' < 8 → allowed f x m ≡ true → allowed f x m' ≡ true → ahead f x m ≡ ahead f x m' → m ≡ m'
  ahead_one x m m' l l' e e' s =
      let i = allowed-inside x m e in
      let i' = allowed-inside x m' e' in
      let p : east m ≡ east m' = omega (arith, ap (column f) s, ahead-column f x m i, ahead-column f x m' i', i.west, i'.west) in
      let q : south m ≡ south m' = omega (arith, ap (row f) s, ahead-row f x m i, ahead-row f x m' i', i.north, i'.north) in
      sym (moved m l) ∙ ap₂ move_of p q ∙ moved m' l'

  -- each price is a move's
  arrive : (x y m : ℕ) → m < 8 → 1 ≤ price f x y → column f y < f.width → row f y < f.height → column f x + east m ≡ column f y + 1 → row f x + south m ≡ row f y + 1
      → (m : ℕ) × (m < 8) × (allowed f x m ≡ true) × (ahead f x m ≡ y)
  unfolding ahead
  arrive x y m l h cx ry p q =
      let p' : column f x + east m - 1 ≡ column f y = omega (arith, p) in
      let q' : row f x + south m - 1 ≡ row f y = omega (arith, q) in
      let same : ahead f x m ≡ y = ap₂ (λ r c. r * f.width + c) q' p' ∙ cell_at f.width y in
      let i : Inside f x m = record { west = omega (arith, p); east = omega (arith, p, cx); north = omega (arith, q); south = omega (arith, q, ry) } in
      (m, l, some_allowed x m i (omega (arith, ap (price f x) same)), same)

  pub price-move : (x y : ℕ) → 1 ≤ price f x y → (m : ℕ) × (m < 8) × (allowed f x m ≡ true) × (ahead f x m ≡ y)
  price-move x y h =
      let t = priced f x y h in
      let cx : column f y < f.width = mod-lt y z.wide in
      let ry : row f y < f.height = row_lt f.width f.height y z.wide (free-below f y (is_true (free f y) (price-free f y x (omega (arith, price_same f x y))))) in
      let dx = way_apart (column f x) (column f y) t.columns in
      let dy = way_apart (row f x) (row f y) t.rows in
      let (m, l, p, q) =
      move_for (way (column f x) (column f y)) (way (row f x) (row f y)) (way-le (column f x) (column f y) t.columns) (way-le (row f x) (row f y) t.rows)
      (subst (λ k. 1 ≤ k) (sym (ap₂ ◌+◌ dx dy)) t.some) in
      let p' : column f x + east m ≡ column f y + 1 = ap (λ k. column f x + k) p ∙ way_to (column f x) (column f y) t.columns in
      let q' : row f x + south m ≡ row f y + 1 = ap (λ k. row f x + k) q ∙ way_to (row f x) (row f y) t.rows in
      arrive x y m l h cx ry p' q'

  -- the move that leads from a cell to another is the heading
  pub heading_is : (x m : ℕ) → m < 8 → allowed f x m ≡ true → heading f x (ahead f x m) ≡ m
  unfolding heading
  heading_is x m l e =
      let test : ℕ → Bool = λ k. allowed f x k && eqb (ahead f x k) (ahead f x m) in
      let t : T (test m) = subst T (sym (both_of (allowed f x m) (eqb (ahead f x m) (ahead f x m)) e (eq-eqb (ahead f x m) (ahead f x m) refl))) tt in
      let k = lowest 8 test in
      let k_lt : k < 8 = omega (arith, lowest-low 8 test m l t) in
      let u = both (allowed f x k) (eqb (ahead f x k) (ahead f x m)) (is_true _ (lowest-met 8 test m l t)) in
      ahead_one x k m k_lt l u.0 e (eqb-true (ahead f x k) (ahead f x m) u.1)
