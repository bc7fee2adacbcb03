-- The least key of each ring, one cell more at a time, and the greatest of them.
-- Assumes nothing.
use mathlib.Core.Path.{◌≡◌, refl, ap, sym, ◌∙◌}
use mathlib.Core.List.{List}
use Prim.Native.Nat.{ℕ, ◌+◌, ◌-◌, ◌*◌, ◌/◌, ◌%◌, ◌≤◌, ◌<◌, min, max}
use native.Mathlib.Omega.{arith}
use native.Mathlib.Decide.{dec_le, dec_lt}
use native.Mathlib.Nat.{mul-le-mul}
use borrow.Author.Count.{below_more}
use lib.ListN.{length, get_or, set, length-set}
use lib.Seq.{get_or-set_same}
use Rattle.learning.specs.Walk.{Least}
use Rattle.learning.specs.Ahead.{Ahead, OnRing}
use Rattle.learning.specs.Trial.{figure}
use Rattle.model.specs.Checks.{deepest, finest}
use Rattle.model.specs.Lookahead.{dearest_leg, highest_new}
use Rattle.model.proofs.Cells.{col_at, row_at}
use Rattle.lookahead.specs.Marks.{In}
use Rattle.lookahead.specs.Costs.{Listing}
use Rattle.lookahead.specs.Bests.{ring_at, coarse_at, value, key, unset, Scores, Bests, Topped}
use Rattle.lookahead.proofs.Stores.{by_store}

-- a cell of a ring up to the deepest is marked, and a marked cell is of such a ring
pub ring_in_lem : (base : ℕ) (mark : List ℕ) (x : ℕ) → ring_at base mark x ≤ deepest → In base mark x
ring_in_lem base mark x h = omega arith

pub in_ring : (base : ℕ) (mark : List ℕ) (x m : ℕ) → In base mark x → get_or mark x 0 ≤ base + m → ring_at base mark x ≤ m
in_ring base mark x m p q = omega arith

pub ring_is : (base : ℕ) (mark : List ℕ) (x : ℕ) → In base mark x → get_or mark x 0 - base ≡ ring_at base mark x
ring_is base mark x p = omega arith

-- the greatest so far: of no entry, and of one more
pub topped_none : {best : List ℕ} → Topped best 1 0
topped_none = record { none = λ l. refl; met = λ l. absurd (omega arith); high = λ j a l. absurd (omega arith) }

pub topped_more : {best : List ℕ} {k v : ℕ} → 1 ≤ k → Topped best k v → Topped best (k + 1) (max v (get_or best k 0))
topped_more {best} {k} {v} pos T = record { none = λ l. absurd (omega arith); met = λ l. by (dec_lt 1 k) (dec_le v (get_or best k 0)); high = λ j a l. above j a l (dec_lt j k) }
  where
    above : (j : ℕ) → 1 ≤ j → j < k + 1 → Dec (j < k) → get_or best j 0 ≤ max v (get_or best k 0)
    above j a l (yes h) = omega (arith, T.high j a h)
    above j a l (no h) =
        let e : j ≡ k = omega arith in
        omega (arith, ap (λ i. get_or best i 0) e)

    by : Dec (1 < k) → Dec (v ≤ get_or best k 0) → (j : ℕ) × (1 ≤ j) × (j < k + 1) × (get_or best j 0 ≡ max v (get_or best k 0))
    by d (yes h) = (k, pos, omega arith, omega arith)
    by (yes d) (no h) = let t = T.met d in (t.0, t.1, omega arith, omega arith)
    by (no d) (no h) = absurd (omega (arith, T.none (omega arith)))

-- a value is small, and so is a key
module _ {base : ℕ} {mark cost table : List ℕ} {p : ℕ} (S : Scores base mark cost table p) (x : ℕ) (i : In base mark x) where
  pub value-lt : value cost table p x ≤ highest_new
  value-lt = omega (arith, mul-le-mul {n₁ = p} {m₁ = coarse_at cost x} {n₂ = finest} {m₂ = dearest_leg} S.weight (omega (arith, (S.small x i).0)), (S.small x i).1)

  pub key-lt : key cost table p x < unset
  key-lt = omega (arith, value-lt, (S.inside x i).0)

-- one cell more is entered
module _ {base : ℕ} {mark cost table : List ℕ} {p : ℕ} {list : List ℕ} {i c : ℕ} {best : List ℕ}
    (e : c ≡ get_or list i 0) (near : ring_at base mark c ≤ deepest) (B : Bests base mark cost table p list i best)
  where
    abbrev v : ℕ
    v = min (key cost table p c) (get_or best (ring_at base mark c) 0)

    abbrev best' : List ℕ
    best' = set best (ring_at base mark c) v

    room : ring_at base mark c < length best
    room = omega arith

    old : (j : ℕ) → j < i → get_or best' (ring_at base mark (get_or list j 0)) 0 ≤ key cost table p (get_or list j 0)
    old j l =
        by_store (λ y. y ≤ key cost table p (get_or list j 0)) best (ring_at base mark c) v (ring_at base mark (get_or list j 0)) room
        (λ q. omega (arith, B.low j l, ap (λ k. get_or best k 0) q)) (λ n. B.low j l)

    new : get_or best' (ring_at base mark (get_or list i 0)) 0 ≤ key cost table p (get_or list i 0)
    new = rw (← e, get_or-set_same best (ring_at base mark c) v 0 room) (omega arith)

    met' : (k : ℕ) → k ≤ deepest → get_or best' k 0 < unset → (x : ℕ) × (ring_at base mark x ≡ k) × (key cost table p x ≡ get_or best' k 0)
    met' k l =
        by_store (λ y. y < unset → (x : ℕ) × (ring_at base mark x ≡ k) × (key cost table p x ≡ y)) best (ring_at base mark c) v k room
        (λ q h. by q h (dec_le (key cost table p c) (get_or best (ring_at base mark c) 0))) (λ n h. B.met k l h)
      where
        by : k ≡ ring_at base mark c → v < unset → Dec (key cost table p c ≤ get_or best (ring_at base mark c) 0) → (x : ℕ) × (ring_at base mark x ≡ k) × (key cost table p x ≡ v)
        by q h (yes a) = (c, sym q, omega arith)
        by q h (no a) =
            let m = B.met (ring_at base mark c) near (omega arith) in
            (m.0, m.1 ∙ sym q, omega arith)

    pub bests_more : Bests base mark cost table p list (i + 1) (set best (ring_at base mark c) (min (key cost table p c) (get_or best (ring_at base mark c) 0)))
    bests_more =
        record { size = simp length-set B.size; low = below_more _ _ old new; met = met' }

-- the keys of every ring 1 to m, of which none is empty
module _ {base : ℕ} {mark cost table : List ℕ} {p : ℕ} {list : List ℕ} {n : ℕ} {best : List ℕ} (m : ℕ)
    (S : Scores base mark cost table p) (L : Listing base mark list n) (B : Bests base mark cost table p list n best)
    (few : m ≤ deepest) (full : (k : ℕ) → k ≤ m → (x : ℕ) × (ring_at base mark x ≡ k))
  where
    abbrev ring : ℕ → ℕ
    ring = ring_at base mark

    low : (x : ℕ) → ring x ≤ m → get_or best (ring x) 0 ≤ key cost table p x
    low x h =
        let l = L.listed x (ring_in_lem base mark x (omega arith)) in
        rw l.2 at (B.low l.0 l.1)

    -- a ring's entry is the key of one of its cells
    record Entry (k : ℕ) : Type 0 where
      cell : ℕ
      on : ring cell ≡ k
      small : cell < 4096
      is : value cost table p cell * 4096 + cell ≡ get_or best k 0

    entry : (k : ℕ) → k ≤ m → Entry k
    entry k h =
        let x = full k h in
        let i = ring_in_lem base mark x.0 (omega arith) in
        let l = rw x.1 at (low x.0 (omega arith)) in
        let t = B.met k (omega arith) (omega (arith, key-lt S x.0 i)) in
        record { cell = t.0; on = t.1; small = (S.inside t.0 (ring_in_lem base mark t.0 (omega arith))).0; is = t.2 }

    entry_value : (k : ℕ) (h : k ≤ m) → get_or best k 0 / 4096 ≡ value cost table p (entry k h).cell
    entry_value k h = let t = entry k h in ap (λ y. y / 4096) (sym t.is) ∙ row_at 4096 t.cell (value cost table p t.cell) t.small

    entry-cell : (k : ℕ) (h : k ≤ m) → get_or best k 0 % 4096 ≡ (entry k h).cell
    entry-cell k h = let t = entry k h in ap (λ y. y % 4096) (sym t.is) ∙ col_at 4096 t.cell (value cost table p t.cell) t.small

    -- and no cell of the ring has a lower one
    entry-low : (k : ℕ) (h : k ≤ m) (x : ℕ) → ring x ≡ k → get_or best k 0 ≤ key cost table p x
    entry-low k h x e = rw e at (low x (omega arith))

    small : (x : ℕ) → ring x ≤ m → x < 4096
    small x h = (S.inside x (ring_in_lem base mark x (omega arith))).0

    least : (k : ℕ) → k ≤ m → Least (OnRing p ring (coarse_at cost) (figure table) k) (get_or best k 0 / 4096)
    least k h =
        let t = entry k h in record {
          met = (t.cell, t.on, sym (entry_value k h));
          low = λ u (x, e, f). omega (arith, entry_value k h, entry-low k h x e, small x (omega arith));
        }

    abbrev target : ℕ
    target = get_or best m 0 % 4096

    pub weighed : 1 ≤ m → (top : ℕ) → Topped best (m + 1) top → Ahead p m (ring_at base mark) (coarse_at cost) (figure table) (top / 4096) (get_or best m 0 % 4096)
    weighed some top T =
        let t = entry m (omega arith) in
        let c = entry-cell m (omega arith) in
        let g = T.met (omega arith) in record {
          best = λ k. get_or best k 0 / 4096;
          bests = λ k a h. least k h;
          greatest = record {
            met = (g.0, g.1, omega arith, ap (λ y. y / 4096) g.3);
            high = λ u (k, a, h, e).
                let s = entry k h in
                let w = entry g.0 (omega arith) in
                omega (arith, entry_value k h, T.high k a (omega arith), ap (λ y. y / 4096) g.3, entry_value g.0 (omega arith));
          };
          on_last = ap ring c ∙ t.on;
          chosen = ap (value cost table p) c ∙ sym (entry_value m (omega arith));
          lowest = λ x e f. omega (arith, entry-low m (omega arith) x e, entry_value m (omega arith));
        }

    -- the new figure is small
    pub weighed_high : 1 ≤ m → (top : ℕ) → Topped best (m + 1) top → top / 4096 ≤ highest_new
    weighed_high some top T =
        let g = T.met (omega arith) in
        let h : g.0 ≤ m = omega arith in
        let t = entry g.0 h in
        omega (arith, ap (λ y. y / 4096) g.3, entry_value g.0 h, value-lt S t.cell (ring_in_lem base mark t.cell (omega arith)))
