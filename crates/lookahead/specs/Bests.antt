-- The best of each ring. A cell's key is p × w + figure, and below that the cell: the least key of a ring has its best and, of equal ones, the lowest cell.
use Rattle.std.specs.Prelude.{◌≡◌, List, ℕ, ◌+◌, ◌-◌, ◌*◌, ◌/◌, ◌≤◌, ◌<◌, length, get_or}
use Rattle.model.specs.Checks.{deepest, finest, ceiling}
use Rattle.model.specs.Lookahead.{fineness, highest_new}
use Rattle.lookahead.specs.Marks.{In}
use Rattle.lookahead.specs.Costs.{dearest_fine}

-- how many rings there are, 0 to the deepest
abbrev pub most_rings : ℕ
most_rings = deepest + 1

-- the ring that a mark says, and past the deepest where there is none
abbrev pub ring_at : ℕ → List ℕ → ℕ → ℕ
ring_at base mark x = (get_or mark x 0 - base) + most_rings * (base - get_or mark x 0)

-- w, of a fine cost
abbrev pub coarse_at : List ℕ → ℕ → ℕ
coarse_at cost x = get_or cost x 0 / fineness

-- p × w + figure, and the key
abbrev pub value : (cost table : List ℕ) → (p x : ℕ) → ℕ
value cost table p x = p * coarse_at cost x + get_or table x 0

abbrev pub key : (cost table : List ℕ) → (p x : ℕ) → ℕ
key cost table p x = value cost table p x * 4096 + x

-- more than any key
abbrev pub unset : ℕ
unset = (highest_new + 1) * 4096

-- the window's cells are marked by rings up to the deepest and stand in the table, and their costs and figures are small
pub record Scores (base : ℕ) (mark cost table : List ℕ) (p : ℕ) : Type 0 where
  pub weight : p ≤ finest
  pub marks : length mark ≡ 4096
  pub costs : length cost ≡ 4096
  pub inside : (x : ℕ) → In base mark x → (x < 4096) × (x < length table)
  pub top : (x : ℕ) → get_or mark x 0 ≤ base + deepest
  pub small : (x : ℕ) → In base mark x → (get_or cost x 0 ≤ dearest_fine) × (get_or table x 0 ≤ ceiling)

-- of the cells at the first i places of the list, the least key of each ring
pub record Bests (base : ℕ) (mark cost table : List ℕ) (p : ℕ) (list : List ℕ) (i : ℕ) (best : List ℕ) : Type 0 where
  pub size : length best ≡ most_rings
  pub low : (j : ℕ) → j < i → get_or best (ring_at base mark (get_or list j 0)) 0 ≤ key cost table p (get_or list j 0)
  pub met : (k : ℕ) → k ≤ deepest → get_or best k 0 < unset → (x : ℕ) × (ring_at base mark x ≡ k) × (key cost table p x ≡ get_or best k 0)

-- the greatest of the entries 1 to k - 1
pub record Topped (best : List ℕ) (k v : ℕ) : Type 0 where
  pub none : k ≤ 1 → v ≡ 0
  pub met : 1 < k → (j : ℕ) × (1 ≤ j) × (j < k) × (get_or best j 0 ≡ v)
  pub high : (j : ℕ) → 1 ≤ j → j < k → get_or best j 0 ≤ v
