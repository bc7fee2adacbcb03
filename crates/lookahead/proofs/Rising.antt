-- The eight moves by the cells that they lead to: each is one of the order, and one further on in it leads to a higher cell.
-- Assumes nothing.
use mathlib.Core.Path.{◌≡◌, refl, ap}
use Prim.Native.Nat.{ℕ, ◌+◌, ◌-◌, ◌*◌, ◌/◌, ◌≤◌, ◌<◌}
use native.Mathlib.Decide.{dec_le}
use native.Mathlib.Nat.{mul_comm}
use native.Mathlib.Omega.{arith}
use lib.Dec.{lit<}
use Rattle.model.specs.Floor.{Floor, Sized, column, row, east, south, ahead}
use Rattle.model.proofs.Cells.{cell-lt}
use Rattle.model.proofs.Moves.{all8, east-le, Inside, allowed-inside}
use Rattle.floor.specs.Moves.{to, step_of}
use Rattle.floor.proofs.Steps.{stepped}
use Rattle.lookahead.specs.Way.{rising_move}

-- a move has its place in the order by its row, and in a row by its column, the current cell left out
rank : (k : ℕ) → k < 8 → 3 * south (rising_move k) + east (rising_move k) ≡ k + k / 4
rank = all8 (λ k. 3 * south (rising_move k) + east (rising_move k) ≡ k + k / 4) refl refl refl refl refl refl refl refl

pub rising-lt : (k : ℕ) → k < 8 → rising_move k < 8
rising-lt = all8 (λ k. rising_move k < 8) (lit< tt) (lit< tt) (lit< tt) (lit< tt) (lit< tt) (lit< tt) (lit< tt) (lit< tt)

-- each move has its place in the order
pub rising_all : (m : ℕ) → m < 8 → (k : ℕ) × (k < 8) × (rising_move k ≡ m)
rising_all = all8 (λ m. (k : ℕ) × (k < 8) × (rising_move k ≡ m))
    (1, lit< tt, refl) (2, lit< tt, refl) (4, lit< tt, refl) (7, lit< tt, refl) (6, lit< tt, refl) (5, lit< tt, refl) (3, lit< tt, refl) (0, lit< tt, refl)

-- a cell of a higher row is higher
row_higher : (w x y x' y' : ℕ) → x < w → y < y' → y * w + x < y' * w + x'
row_higher w x y x' y' a b = omega (arith, cell-lt w y' x y a b, mul_comm w y')

module _ (f : Floor) (z : Sized f) (x : ℕ) where
  ahead_higher : (m n : ℕ) → n < 8 → 3 * south m + east m < 3 * south n + east n → Inside f x m → Inside f x n → ahead f x m < ahead f x n
  unfolding ahead
  ahead_higher m n l h a b = by (dec_le (south n) (south m))
    where
      by : Dec (south n ≤ south m) → ahead f x m < ahead f x n
      by (yes s) =
          let same : row f x + south m - 1 ≡ row f x + south n - 1 = omega (arith, east-le n l) in
          omega (arith, ap (λ r. r * f.width) same, east-le n l)
      by (no s) = row_higher f.width (column f x + east m - 1) (row f x + south m - 1) (column f x + east n - 1) (row f x + south n - 1) (omega arith) (omega arith)

  pub rising_higher : (i k : ℕ) → i < k → k < 8 → (b u y v : ℕ) → step_of f x (rising_move i) ≡ to b u → step_of f x (rising_move k) ≡ to y v → b < y
  rising_higher i k h l b u y v s t =
      let p = stepped f z x (rising_move i) b u s in
      let q = stepped f z x (rising_move k) y v t in
      let more : 3 * south (rising_move i) + east (rising_move i) < 3 * south (rising_move k) + east (rising_move k) = omega (arith, rank i (omega arith), rank k l) in
      omega (arith, ahead_higher (rising_move i) (rising_move k) (rising-lt k l) more (allowed-inside f z x (rising_move i) p.allowed) (allowed-inside f z x (rising_move k) q.allowed))
