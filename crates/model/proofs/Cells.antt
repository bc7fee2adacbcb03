-- The cell at a column and a row, and back: the five laws that stand for all of division.
-- Assumes nothing.
use mathlib.Core.Path.{◌≡◌, ap, ◌∙◌}
use Prim.Native.Nat.{ℕ, suc, ◌+◌, ◌*◌, ◌/◌, ◌%◌, ◌≤◌, ◌<◌}
use native.Mathlib.Nat.{mul-le-mul, mul-le-mul_right, mul_comm, suc-mul, div-lt_iff_lt-mul, mul-add-div_right, mul-add-mod_self_right, mod-eq_of_lt, div-eq_of_lt, add-zero, div-add-mod'}
use native.Mathlib.Omega.{arith}

-- a column and a row on the floor give a cell of the floor
pub cell-lt : (w h x y : ℕ) → x < w → y < h → y * w + x < w * h
cell-lt w h x y hx hy = rw (mul_comm w h) (omega (arith, mul-le-mul_right {m = suc y} {n = h} w hy, suc-mul y w))

-- a floor of 64 by 64 at most has 4096 cells at most
pub cells-le : (w h : ℕ) → w ≤ 64 → h ≤ 64 → w * h ≤ 4096
cells-le w h a b = mul-le-mul a b

-- a cell's row
pub row_lt : (w h c : ℕ) → 0 < w → c < w * h → c / w < h
row_lt w h c p q = (div-lt_iff_lt-mul p).1 (rw mul_comm q)

-- the column and the row of the cell at a column and a row
pub col_at : (w x y : ℕ) → x < w → (y * w + x) % w ≡ x
col_at w x y hx = mul-add-mod_self_right y w x ∙ mod-eq_of_lt hx

pub row_at : (w x y : ℕ) → x < w → (y * w + x) / w ≡ y
row_at w x y hx = mul-add-div_right {m = w} (omega arith) y x ∙ ap (λ k. y + k) (div-eq_of_lt hx) ∙ add-zero y

-- the cell at its own column and row
pub cell_at : (w c : ℕ) → c / w * w + c % w ≡ c
cell_at w c = div-add-mod' c w
