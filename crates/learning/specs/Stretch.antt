-- The ground whose every price is k × price + e: costs k-fold where e is 0, and where e is 1 each move counts beside its price.
use Rattle.std.specs.Prelude.{ℕ, zero, suc, ◌+◌, ◌*◌, ◌≤◌, max, ◌≡◌, refl}
use Rattle.std.proofs.Common.{ap, mul-le-mul_left, arith}
use Rattle.learning.specs.Ground.{Ground}

-- no move stays no move
abbrev pub stretched : (k e c : ℕ) → ℕ
stretched k e zero = zero
stretched k e (suc c) = k * suc c + e

pub stretched-move : (k e c : ℕ) → 1 ≤ c → stretched k e c ≡ k * c + e
stretched-move k e zero h = absurd (omega arith)
stretched-move k e (suc c) h = refl

pub stretched_some : (k e c : ℕ) → 1 ≤ stretched k e c → 1 ≤ c
stretched_some k e zero h = absurd (omega arith)
stretched_some k e (suc c) h = omega arith

pub stretched-high : (k e c h : ℕ) → c ≤ h → stretched k e c ≤ k * h + e
stretched-high k e zero h l = omega arith
stretched-high k e (suc c) h l = omega (arith, mul-le-mul_left k l)

-- It takes no proof about k, so that two mentions of it are one ground. Where k is 0 and e is 0 it has no move.
abbrev pub stretch : (G : Ground) (k e : ℕ) → Ground
stretch G k e = record {
  cells = G.cells;
  price = λ a b. stretched k e (G.price a b);
  goal = G.goal;
  least = max 1 (k * G.least + e);
  dearest = k * G.dearest + e;
  positive = omega arith;
  low = λ a b h. let l = stretched_some k e (G.price a b) h in omega (arith, stretched-move k e (G.price a b) l, mul-le-mul_left k (G.low a b l));
  high = λ a b. stretched-high k e (G.price a b) G.dearest (G.high a b);
  same = λ a b. ap (stretched k e) (G.same a b);
  inside = λ a b h. G.inside a b (stretched_some k e (G.price a b) h);
  goals-inside = G.goals-inside;
}
