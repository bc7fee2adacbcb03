-- One move worked out: how far each of the eight goes, which sides of a cell are free, where a move leads by them, what it costs, and when it is a wall.
-- Assumes nothing.
use mathlib.Core.Path.{◌≡◌, refl, sym, ap, ap₂, ◌∙◌, subst}
use mathlib.Core.Bool.{Bool, true, false, true≢false, cond, not, ◌&&◌, ◌||◌}
use Prim.Native.Nat.{ℕ, zero, suc, ◌+◌, ◌-◌, ◌*◌, ◌%◌, ◌≤◌, ◌<◌}
use native.Mathlib.Omega.{arith}
use native.Mathlib.Decide.{dec_le}
use native.Mathlib.Nat.{add-mul, suc-mul, mul-le-mul_right, mul_comm, mod-lt}
use borrow.Author.Tests.{lt-ltb, le-ltb, ltb-true, not-true, not-false}
use lib.Dec.{eqb, ltb, lit≤}
use lib.ListN.{length, get_or}
use Rattle.std.specs.Prelude.{None}
use Rattle.model.specs.Basics.{choose}
use Rattle.model.specs.Floor.{Floor, Sized, size, column, row, blocked_byte, slow_byte, free_byte, free, slow, straight, diagonal, doubled, slowly, corner, clear, price, ahead, allowed, east, south}
use Rattle.model.specs.Grounds.{clear-true}
use Rattle.model.proofs.Cells.{cell-lt, row_lt, cell_at}
use Rattle.model.proofs.Moves.{all8, toll, east-le, south-le, Inside, free-below, sized-cells, ahead-lt, corner-beside, corner-across}
use Rattle.model.proofs.Moves.{allowed-inside, allowed-free, allowed_corners, allowed-true, price-ahead}
use Rattle.floor.specs.declared.Spot.{Spot}
use Rattle.floor.specs.Moves.{to, step_of, north_byte, west_byte, east_byte, south_byte, Placed, Clear, RowClear, ColumnClear, Unless, ahead_byte}

-- the eight moves by tests: how far each goes, which byte it leads to, and what it costs
pub east_by : (m : ℕ) → m < 8 → cond (eqb (m % 4) 0) 1 (cond (ltb m 4) 2 0) ≡ east m
east_by = all8 (λ m. cond (eqb (m % 4) 0) 1 (cond (ltb m 4) 2 0) ≡ east m) refl refl refl refl refl refl refl refl

pub south_by : (m : ℕ) → m < 8 → cond (eqb (m % 4) 2) 1 (cond (ltb m 2) 0 (cond (ltb m 6) 2 0)) ≡ south m
south_by = all8 (λ m. cond (eqb (m % 4) 2) 1 (cond (ltb m 2) 0 (cond (ltb m 6) 2 0)) ≡ south m) refl refl refl refl refl refl refl refl

pub ahead_by : (at : Spot) (b m : ℕ) → m < 8
    → cond (eqb m 0) at.north (cond (eqb m 2) at.east (cond (eqb m 4) at.south (cond (eqb m 6) at.west b))) ≡ ahead_byte at m b
ahead_by at b =
    all8 (λ m. cond (eqb m 0) at.north (cond (eqb m 2) at.east (cond (eqb m 4) at.south (cond (eqb m 6) at.west b))) ≡ ahead_byte at m b)
    refl refl refl refl refl refl refl refl

pub toll_by : (m : ℕ) → m < 8 → cond (eqb (m % 2) 0) straight diagonal ≡ toll m
toll_by = all8 (λ m. cond (eqb (m % 2) 0) straight diagonal ≡ toll m) refl refl refl refl refl refl refl refl

pub toll-high : (m : ℕ) → m < 8 → toll m ≤ diagonal
toll-high = all8 (λ m. toll m ≤ diagonal) (lit≤ tt) (lit≤ tt) (lit≤ tt) (lit≤ tt) (lit≤ tt) (lit≤ tt) (lit≤ tt) (lit≤ tt)

-- the cell at a column and row, moved by so many columns and rows
moved : (w x y e s : ℕ) → 1 ≤ x + e → 1 ≤ y + s → (y + s - 1) * w + (x + e - 1) + (w + 1) ≡ y * w + x + s * w + e
moved w x y e s p q =
    let t : suc (y + s - 1) ≡ y + s = omega arith in
    omega (arith, ap (λ k. k * w) t, suc-mul (y + s - 1) w, add-mul y s w)

-- whether a cell of the floor is free is told by its byte
pub byte_tells : (f : Floor) (c : ℕ) → c < size f → free f c ≡ free_byte (get_or f.bytes c 0)
unfolding free
byte_tells f c l = ap (λ t. t && free_byte (get_or f.bytes c 0)) (lt-ltb c (size f) l)

pub here_free : {f : Floor} {x : ℕ} {at : Spot} → Placed f x at → free_byte at.here ≡ true
here_free {f} {x} p = ap free_byte p.here ∙ sym (byte_tells f x (free-below f x p.free)) ∙ p.free

-- ---- the ways out of a cell: past the edge it is as blocked, and else it is the floor's byte

chosen : (t : Bool) (b : ℕ) → t ≡ true → b ≡ choose t b blocked_byte
chosen t b e = sym (ap (λ k. choose k b blocked_byte) e)

barred : (t : Bool) (b : ℕ) → t ≡ false → blocked_byte ≡ choose t b blocked_byte
barred t b e = sym (ap (λ k. choose k b blocked_byte) e)

-- a side that is free is on the floor
open-side : (t : Bool) (b : ℕ) → free_byte (choose t b blocked_byte) ≡ true → (t ≡ true) × (free_byte b ≡ true)
open-side true b e = (refl, e)
open-side false b e = absurd (true≢false (sym e))

module _ (f : Floor) (z : Sized f) (x : ℕ) (on : x < size f) where
  pub in_row : column f x < f.width
  in_row = mod-lt x z.wide

  in_column : row f x < f.height
  in_column = row_lt f.width f.height x z.wide on

  -- the cell beside it, where there is one, is on the floor
  north_on : 1 ≤ row f x → f.width ≤ x
  north_on h = omega (arith, cell_at f.width x, mul-le-mul_right f.width h)

  pub west_on : 1 ≤ column f x → 1 ≤ x
  west_on h = omega (arith, cell_at f.width x)

  pub east_on : column f x + 1 < f.width → x + 1 < size f
  east_on h = omega (arith, cell_at f.width x, cell-lt f.width f.height (column f x + 1) (row f x) h in_column)

  south_on : row f x + 1 < f.height → x + f.width < size f
  south_on h = omega (arith, cell_at f.width x, suc-mul (row f x) f.width, cell-lt f.width f.height (column f x) (suc (row f x)) in_row (omega (arith, h)))

  -- the first row is that of the first cells, and the last that of the last
  pub first_row : x < f.width → row f x ≤ 0
  first_row h = by (dec_le 1 (row f x))
    where
      by : Dec (1 ≤ row f x) → row f x ≤ 0
      by (yes l) = absurd (omega (arith, north_on l))
      by (no l) = omega arith

  pub past_first : f.width ≤ x → 1 ≤ row f x
  past_first h = by (dec_le 1 (row f x))
    where
      by : Dec (1 ≤ row f x) → 1 ≤ row f x
      by (yes l) = l
      by (no l) =
          let none : row f x ≡ 0 = omega arith in
          absurd (omega (arith, cell_at f.width x, ap (λ r. r * f.width) none, in_row))

  pub last_row : size f ≤ x + f.width → f.height ≤ row f x + 1
  last_row h = by (dec_le f.height (row f x + 1))
    where
      by : Dec (f.height ≤ row f x + 1) → f.height ≤ row f x + 1
      by (yes l) = l
      by (no l) = absurd (omega (arith, south_on (omega arith)))

  pub before_last : x + f.width < size f → row f x + 1 < f.height
  before_last h = by (dec_le f.height (suc (row f x)))
    where
      by : Dec (f.height ≤ suc (row f x)) → row f x + 1 < f.height
      by (yes l) = absurd (omega (arith, cell_at f.width x, suc-mul (row f x) f.width, mul-le-mul_right f.width l, mul_comm f.width f.height))
      by (no l) = omega arith

-- past the edge
pub north_off : (f : Floor) (x : ℕ) → row f x ≤ 0 → blocked_byte ≡ north_byte f x
north_off f x h = barred (ltb 0 (row f x)) (get_or f.bytes (x - f.width) 0) (le-ltb 0 (row f x) h)

pub east_off : (f : Floor) (x : ℕ) → f.width ≤ column f x + 1 → blocked_byte ≡ east_byte f x
east_off f x h = barred (ltb (column f x + 1) f.width) (get_or f.bytes (x + 1) 0) (le-ltb (column f x + 1) f.width h)

pub south_off : (f : Floor) (x : ℕ) → f.height ≤ row f x + 1 → blocked_byte ≡ south_byte f x
south_off f x h = barred (ltb (row f x + 1) f.height) (get_or f.bytes (x + f.width) 0) (le-ltb (row f x + 1) f.height h)

-- and not
pub north_is_byte : (f : Floor) (x : ℕ) → 1 ≤ row f x → get_or f.bytes (x - f.width) 0 ≡ north_byte f x
north_is_byte f x h = chosen (ltb 0 (row f x)) (get_or f.bytes (x - f.width) 0) (lt-ltb 0 (row f x) h)

pub west_is_byte : (f : Floor) (x : ℕ) → 1 ≤ column f x → get_or f.bytes (x - 1) 0 ≡ west_byte f x
west_is_byte f x h = chosen (ltb 0 (column f x)) (get_or f.bytes (x - 1) 0) (lt-ltb 0 (column f x) h)

pub east_is_byte : (f : Floor) (x : ℕ) → column f x + 1 < f.width → get_or f.bytes (x + 1) 0 ≡ east_byte f x
east_is_byte f x h = chosen (ltb (column f x + 1) f.width) (get_or f.bytes (x + 1) 0) (lt-ltb (column f x + 1) f.width h)

pub south_is_byte : (f : Floor) (x : ℕ) → row f x + 1 < f.height → get_or f.bytes (x + f.width) 0 ≡ south_byte f x
south_is_byte f x h = chosen (ltb (row f x + 1) f.height) (get_or f.bytes (x + f.width) 0) (lt-ltb (row f x + 1) f.height h)

-- ---- whether a side that a move needs is not free

module _ {n low high : ℕ} {t : Bool} where
  pub unless-low : n ≡ 0 → t ≡ free_byte low → Unless (Clear n low high) (not t)
  unless-low e i = record {
    holds = λ h. record { low = λ q. sym i ∙ not-false t h; high = λ q. absurd (omega (arith, e, q)) };
    fails = λ h c. true≢false (sym (i ∙ c.low e) ∙ not-true t h);
  }

  pub unless-high : n ≡ 2 → t ≡ free_byte high → Unless (Clear n low high) (not t)
  unless-high e i = record {
    holds = λ h. record { low = λ q. absurd (omega (arith, e, q)); high = λ q. sym i ∙ not-false t h };
    fails = λ h c. true≢false (sym (i ∙ c.high e) ∙ not-true t h);
  }

pub unless_neither : {n low high : ℕ} → (n ≡ 0 → ⊥) → (n ≡ 2 → ⊥) → Unless (Clear n low high) false
unless_neither a b = record { holds = λ h. record { low = λ q. absurd (a q); high = λ q. absurd (b q) }; fails = λ h. absurd (true≢false (sym h)) }

-- ---- a move by the ways out

-- what holds of 0, 1 and 2
three : (P : ℕ → Type 0) → P 0 → P 1 → P 2 → (n : ℕ) → n ≤ 2 → P n
three P a b c zero l = a
three P a b c (suc zero) l = b
three P a b c (suc (suc zero)) l = c
three P a b c (suc (suc (suc n))) l = absurd (omega arith)

-- the straight cells that the move m needs are free
abbrev pub Sided : Spot → ℕ → Type 0
Sided at m = RowClear at m × ColumnClear at m

module _ {f : Floor} {x : ℕ} {at : Spot} (z : Sized f) (P : Placed f x at) (m : ℕ) (l : m < 8) where
  abbrev y : ℕ
  y = ahead f x m

  below : x < size f
  below = free-below f x P.free

  -- a side that is free: its cell is on the floor and free
  as_byte : (c : ℕ) → c < size f → free_byte (get_or f.bytes c 0) ≡ true → free f c ≡ true
  as_byte c l e = byte_tells f c l ∙ e

  north_is : free_byte at.north ≡ true → (1 ≤ row f x) × (free f (x - f.width) ≡ true)
  north_is e =
      let (t, h) = open-side (ltb 0 (row f x)) (get_or f.bytes (x - f.width) 0) (ap free_byte (sym P.north) ∙ e) in
      (ltb-true 0 (row f x) t, as_byte (x - f.width) (omega (arith, below)) h)

  west_is : free_byte at.west ≡ true → (1 ≤ column f x) × (free f (x - 1) ≡ true)
  west_is e =
      let (t, h) = open-side (ltb 0 (column f x)) (get_or f.bytes (x - 1) 0) (ap free_byte (sym P.west) ∙ e) in
      (ltb-true 0 (column f x) t, as_byte (x - 1) (omega (arith, below)) h)

  east_is : free_byte at.east ≡ true → (column f x + 1 < f.width) × (free f (x + 1) ≡ true)
  east_is e =
      let (t, h) = open-side (ltb (column f x + 1) f.width) (get_or f.bytes (x + 1) 0) (ap free_byte (sym P.east) ∙ e) in
      let l = ltb-true (column f x + 1) f.width t in
      (l, as_byte (x + 1) (east_on f z x below l) h)

  south_is : free_byte at.south ≡ true → (row f x + 1 < f.height) × (free f (x + f.width) ≡ true)
  south_is e =
      let (t, h) = open-side (ltb (row f x + 1) f.height) (get_or f.bytes (x + f.width) 0) (ap free_byte (sym P.south) ∙ e) in
      let l = ltb-true (row f x + 1) f.height t in
      (l, as_byte (x + f.width) (south_on f z x below l) h)

  as_free : (c d : ℕ) → c ≡ d → free f c ≡ true → free f d ≡ true
  as_free c d q h = subst (λ k. free f k ≡ true) q h

  -- with the sides that it needs, a move stays on the floor
  sided_inside : Sided at m → Inside f x m
  sided_inside s = record {
    west = three (λ e. (e ≡ 0 → free_byte at.west ≡ true) → 1 ≤ column f x + e) (λ h. omega (arith, (west_is (h refl)).0)) (λ h. omega arith) (λ h. omega arith) (east m) (east-le m l) s.0.low;
    east = three (λ e. (e ≡ 2 → free_byte at.east ≡ true) → column f x + e ≤ f.width) (λ h. omega (arith, in_row f z x below)) (λ h. omega (arith, in_row f z x below))
        (λ h. omega (arith, (east_is (h refl)).0)) (east m) (east-le m l) s.0.high;
    north = three (λ n. (n ≡ 0 → free_byte at.north ≡ true) → 1 ≤ row f x + n) (λ h. omega (arith, (north_is (h refl)).0)) (λ h. omega arith) (λ h. omega arith) (south m) (south-le m l) s.1.low;
    south = three (λ n. (n ≡ 2 → free_byte at.south ≡ true) → row f x + n ≤ f.height) (λ h. omega (arith, in_column f z x below)) (λ h. omega (arith, in_column f z x below))
        (λ h. omega (arith, (south_is (h refl)).0)) (south m) (south-le m l) s.1.high;
  }

  -- the straight cells beside a move that stays on the floor are sums
  module _ (i : Inside f x m) where
    beside-sum : corner f x y + 1 ≡ x + east m
    beside-sum = omega (arith, corner-beside f x m i, i.west, cell_at f.width x)

    across-sum : corner f y x + f.width ≡ x + south m * f.width
    across-sum = omega (arith, corner-across f x m i, moved f.width (column f x) (row f x) 1 (south m) (omega arith) i.north, cell_at f.width x)

    ahead-sum : y + (f.width + 1) ≡ x + south m * f.width + east m
    unfolding ahead
    ahead-sum = omega (arith, moved f.width (column f x) (row f x) (east m) (south m) i.west i.north, cell_at f.width x)

  -- a move that is not allowed is a wall
  wall : (allowed f x m ≡ true → ⊥) → None ≡ step_of f x m
  unfolding step_of
  wall n = go (allowed f x m) n
    where
      go : (t : Bool) → (t ≡ true → ⊥) → None ≡ choose t (to (ahead f x m) (price f x (ahead f x m))) None
      go true n = absurd (n refl)
      go false n = refl

  -- an allowed move has the sides that it needs
  module _ (e : allowed f x m ≡ true) where
    allowed_in : Inside f x m
    allowed_in = allowed-inside f z x m e

    -- the byte of a free cell is free
    byte-free : (c d : ℕ) → c ≡ d → free f c ≡ true → free_byte (get_or f.bytes d 0) ≡ true
    byte-free c d q h = let l = free-below f c h in ap (λ k. free_byte (get_or f.bytes k 0)) (sym q) ∙ sym (byte_tells f c l) ∙ h

    allowed-row : RowClear at m
    allowed-row =
        let i = allowed_in in
        let sum = beside-sum i in
        let h = (allowed_corners f z x m e).0 in record {
          low = λ s. ap free_byte (P.west ∙ sym (west_is_byte f x (omega (arith, i.west, s)))) ∙ byte-free (corner f x y) (x - 1) (omega (arith, sum, s)) h;
          high = λ s. ap free_byte (P.east ∙ sym (east_is_byte f x (omega (arith, i.east, s)))) ∙ byte-free (corner f x y) (x + 1) (omega (arith, sum, s)) h;
        }

    allowed-column : ColumnClear at m
    allowed-column =
        let i = allowed_in in
        let sum = across-sum i in
        let h = (allowed_corners f z x m e).1 in record {
          low = λ s. ap free_byte (P.north ∙ sym (north_is_byte f x (omega (arith, i.north, s))))
              ∙ byte-free (corner f y x) (x - f.width) (omega (arith, sum, ap (λ k. k * f.width) s)) h;
          high = λ s. ap free_byte (P.south ∙ sym (south_is_byte f x (omega (arith, i.south, s))))
              ∙ byte-free (corner f y x) (x + f.width) (omega (arith, sum, ap (λ k. k * f.width) s)) h;
        }

    allowed-byte : (d : ℕ) → y ≡ d → free_byte (get_or f.bytes d 0) ≡ true
    allowed-byte d q = byte-free y d q (allowed-free f z x m e)

  pub wall_row : (RowClear at m → ⊥) → None ≡ step_of f x m
  wall_row n = wall (λ e. n (allowed-row e))

  pub wall_column : (ColumnClear at m → ⊥) → None ≡ step_of f x m
  wall_column n = wall (λ e. n (allowed-column e))

  -- with them the straight cells beside the move are free
  module _ (s : Sided at m) where
    inside : Inside f x m
    inside = sided_inside s

    -- the sum that leads to the cell moved into has room below and above
    pub room : (f.width + 1 ≤ x + south m * f.width + east m) × (x + south m * f.width + east m ≤ 8192)
    room = (omega (arith, ahead-sum inside), omega (arith, ahead-sum inside, ahead-lt f x m inside, sized-cells z, z.narrow))

    beside-free : free f (corner f x y) ≡ true
    beside-free =
        three (λ e. (e ≡ 0 → free_byte at.west ≡ true) → (e ≡ 2 → free_byte at.east ≡ true) → (c : ℕ) → c + 1 ≡ x + e → free f c ≡ true)
        (λ w e c q. as_free (x - 1) c (omega (arith, q)) (west_is (w refl)).1) (λ w e c q. as_free x c (omega (arith, q)) P.free)
        (λ w e c q. as_free (x + 1) c (omega (arith, q)) (east_is (e refl)).1) (east m) (east-le m l) s.0.low s.0.high (corner f x y) (beside-sum inside)

    across-free : free f (corner f y x) ≡ true
    across-free =
        three (λ k. (k ≡ 0 → free_byte at.north ≡ true) → (k ≡ 2 → free_byte at.south ≡ true) → (c : ℕ) → c + f.width ≡ x + k * f.width → free f c ≡ true)
        (λ n t c q. as_free (x - f.width) c (omega (arith, q)) (north_is (n refl)).1) (λ n t c q. as_free x c (omega (arith, q)) P.free)
        (λ n t c q. as_free (x + f.width) c (omega (arith, q)) (south_is (t refl)).1) (south m) (south-le m l) s.1.low s.1.high (corner f y x) (across-sum inside)

    module _ (d : ℕ) (e : d ≡ x + south m * f.width + east m - (f.width + 1)) where
      ahead_is : y ≡ d
      ahead_is = omega (arith, ahead-sum inside, e)

      pub reached : d < length f.bytes
      reached = omega (arith, ahead-lt f x m inside, ahead_is, z.cells)

      -- by the ways out it is the byte of the cell moved into
      byte-ahead : ahead_byte at m (get_or f.bytes d 0) ≡ get_or f.bytes d 0
      byte-ahead = all8 (λ m. Inside f x m → d ≡ x + south m * f.width + east m - (f.width + 1) → ahead_byte at m (get_or f.bytes d 0) ≡ get_or f.bytes d 0)
          (λ i q. P.north ∙ sym (north_is_byte f x (omega (arith, i.north))) ∙ same (omega (arith, q)))
          (λ i q. refl)
          (λ i q. P.east ∙ sym (east_is_byte f x (omega (arith, i.east))) ∙ same (omega (arith, q)))
          (λ i q. refl)
          (λ i q. P.south ∙ sym (south_is_byte f x (omega (arith, i.south))) ∙ same (omega (arith, q)))
          (λ i q. refl)
          (λ i q. P.west ∙ sym (west_is_byte f x (omega (arith, i.west))) ∙ same (omega (arith, q)))
          (λ i q. refl)
          m l inside e
        where
          same : {c : ℕ} → c ≡ d → get_or f.bytes c 0 ≡ get_or f.bytes d 0
          same q = ap (λ c. get_or f.bytes c 0) q

      -- where that is blocked there is a wall
      pub wall_ahead : (b : ℕ) → b ≡ ahead_byte at m (get_or f.bytes d 0) → free_byte b ≡ false → None ≡ step_of f x m
      wall_ahead b q n = wall (λ h. true≢false (sym (allowed-byte h d ahead_is) ∙ ap free_byte (sym (q ∙ byte-ahead)) ∙ n))

      -- with all that it needs free the move leads there, at its toll, doubled where a byte is slow
      module _ (b : ℕ) (tells : b ≡ ahead_byte at m (get_or f.bytes d 0)) (free_there : free_byte b ≡ true) where
        is : b ≡ get_or f.bytes d 0
        is = tells ∙ byte-ahead

        ahead-free : free f y ≡ true
        ahead-free = ap (free f) ahead_is ∙ byte_tells f d (omega (arith, reached, z.cells)) ∙ ap free_byte (sym is) ∙ free_there

        pays : doubled (eqb at.here slow_byte || eqb b slow_byte) (toll m) ≡ doubled (slowly f x y) (toll m)
        unfolding slow
        pays = ap₂ (λ h t. doubled (eqb h slow_byte || eqb t slow_byte) (toll m)) P.here (is ∙ ap (λ c. get_or f.bytes c 0) (sym ahead_is))

        pub step_to : (v : ℕ) → v ≡ doubled (eqb at.here slow_byte || eqb b slow_byte) (toll m) → to d v ≡ step_of f x m
        unfolding step_of
        step_to v q =
            let o : clear f x y ≡ true = clear-true f x y P.free ahead-free beside-free across-free in
            ap (to d) (q ∙ pays)
            ∙ sym (ap (λ t. choose t (to (ahead f x m) (price f x (ahead f x m))) None) (allowed-true f z x m l inside o) ∙ ap₂ to ahead_is (price-ahead f z x m l inside o))
