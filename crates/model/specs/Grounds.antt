-- A floor with its goals is a ground: moves go both ways at one price, between the least and the dearest.
-- So rings, w, true distances, routes and trials are those that `learning` computes and proves, over `price`.
use Rattle.std.specs.Prelude.{ℕ, zero, suc, ◌+◌, ◌-◌, ◌≤◌, ◌<◌, ◌≡◌, refl, Bool, true, false, ◌&&◌, ◌||◌, List, T, leb, ltb}
use Rattle.std.proofs.Common.{ap₂, ◌∙◌, add_comm, arith, ltb→lt}
use Rattle.std.proofs.Math.Nat.{min_comm}
use Rattle.learning.specs.Ground.{Ground, pick}
use Rattle.model.specs.Basics.{member}
use Rattle.model.specs.Floor.{Floor, size, column, row, free, slow, apart, diagonal, doubled, slowly, least_price, dearest_price, tariff, fare, corner, clear, price}

tariff-low : (n : ℕ) → 1 ≤ tariff n → least_price ≤ tariff n
tariff-low zero h = absurd (omega arith)
tariff-low (suc zero) h = omega arith
tariff-low (suc (suc zero)) h = omega arith
tariff-low (suc (suc (suc n))) h = absurd (omega arith)

tariff-high : (n : ℕ) → tariff n ≤ diagonal
tariff-high zero = omega arith
tariff-high (suc zero) = omega arith
tariff-high (suc (suc zero)) = omega arith
tariff-high (suc (suc (suc n))) = omega arith

pick_low : (b s : Bool) (n : ℕ) → 1 ≤ pick b (doubled s (tariff n)) 0 → least_price ≤ pick b (doubled s (tariff n)) 0
pick_low true true n h = omega (arith, tariff-low n (omega arith))
pick_low true false n h = tariff-low n h
pick_low false s n h = absurd (omega arith)

pick-high : (b s : Bool) (n : ℕ) → pick b (doubled s (tariff n)) 0 ≤ dearest_price
pick-high true true n = omega (arith, tariff-high n)
pick-high true false n = omega (arith, tariff-high n)
pick-high false s n = omega arith

-- a slow move is one at the ordinary price too, and is no cheaper
pick_dearer : (b s : Bool) (n : ℕ) → 1 ≤ pick b (doubled s n) 0 → (1 ≤ pick b n 0) × (pick b n 0 ≤ pick b (doubled s n) 0)
pick_dearer true true n h = (omega arith, omega arith)
pick_dearer true false n h = (h, omega arith)
pick_dearer false s n h = absurd (omega arith)

pub apart_comm : (a b : ℕ) → apart a b ≡ apart b a
apart_comm a b = add_comm (a - b) (b - a)

pub both_first : (a b : Bool) → T (a && b) → T a
both_first true b h = tt
both_first false b h = h

both_second : (a b : Bool) → T (a && b) → T b
both_second true b h = h
both_second false b h = absurd h

pub free-inside : (f : Floor) (x : ℕ) → T (free f x) → x < size f
unfolding free
free-inside f x h = ltb→lt x (size f) (both_first (ltb x (size f)) _ h)

-- ---- the fare between two cells, whichever cells it needs free, and be it slow or not

abbrev pub fare_between : Floor → (clear slow : Bool) → ℕ → ℕ → ℕ
fare_between f t s a b = fare t s (apart (column f a) (column f b)) (apart (row f a) (row f b))

module _ (f : Floor) (t s : Bool) (a b : ℕ) where
  abbrev dx : ℕ
  dx = apart (column f a) (column f b)

  abbrev dy : ℕ
  dy = apart (row f a) (row f b)

  pub fare-low : 1 ≤ fare_between f t s a b → least_price ≤ fare_between f t s a b
  fare-low = pick_low (leb dx 1 && leb dy 1 && t) s (dx + dy)

  pub fare-high : fare_between f t s a b ≤ dearest_price
  fare-high = pick-high (leb dx 1 && leb dy 1 && t) s (dx + dy)

  pub fare-clear : 1 ≤ fare_between f t s a b → T t
  fare-clear h = picked (leb dx 1 && leb dy 1) t h
    where
      picked : (n t : Bool) → 1 ≤ pick (n && t) (doubled s (tariff (dx + dy))) 0 → T t
      picked true true h = tt
      picked true false h = absurd (omega arith)
      picked false t h = absurd (omega arith)

  pub fare_dearer : 1 ≤ fare_between f t s a b → (1 ≤ fare_between f t false a b) × (fare_between f t false a b ≤ fare_between f t s a b)
  fare_dearer = pick_dearer (leb dx 1 && leb dy 1 && t) s (tariff (dx + dy))

pub fare_same : (f : Floor) (t t' s s' : Bool) (a b : ℕ) → t ≡ t' → s ≡ s' → fare_between f t s a b ≡ fare_between f t' s' b a
fare_same f t t' s s' a b e i =
    ap₂ (λ t s. fare_between f t s a b) e i ∙ ap₂ (fare t' s') (apart_comm (column f a) (column f b)) (apart_comm (row f a) (row f b))

-- (`min_comm` takes no part, but for the wrong edit by which one end alone counts: with it this file can be read all the same)
pub slowly_same : (f : Floor) (a b : ℕ) → slowly f a b ≡ slowly f b a
slowly_same f a b = cc (either_comm (slow f a) (slow f b), min_comm a b)
  where
    either_comm : (a b : Bool) → (a || b) ≡ (b || a)
    either_comm true true = refl
    either_comm true false = refl
    either_comm false true = refl
    either_comm false false = refl

-- ---- the cells that must be free: all that is known of `clear`

pub both_comm : (a b : Bool) → (a && b) ≡ (b && a)
both_comm true true = refl
both_comm true false = refl
both_comm false true = refl
both_comm false false = refl

pub clear-corner : (f : Floor) (a b : ℕ) → T (clear f a b) → T (free f (corner f a b))
unfolding clear
clear-corner f a b h = both_first (free f (corner f a b)) (free f (corner f b a)) (both_second (free f a && free f b) _ h)

pub clear_same : (f : Floor) (a b : ℕ) → clear f a b ≡ clear f b a
unfolding clear
clear_same f a b = cc (both_comm (free f a) (free f b), both_comm (free f (corner f a b)) (free f (corner f b a)))

pub clear-ends : (f : Floor) (a b : ℕ) → T (clear f a b) → T (free f a && free f b)
unfolding clear
clear-ends f a b = both_first _ _

pub clear-free : (f : Floor) (a b : ℕ) → T (clear f a b) → T (free f a)
clear-free f a b h = both_first (free f a) (free f b) (clear-ends f a b h)

pub clear-true : (f : Floor) (a b : ℕ) → free f a ≡ true → free f b ≡ true → free f (corner f a b) ≡ true → free f (corner f b a) ≡ true → clear f a b ≡ true
unfolding clear
clear-true f a b here there beside across = ap₂ ◌&&◌ (ap₂ ◌&&◌ here there) (ap₂ ◌&&◌ beside across)

-- ---- the price

pub price-fare : (f : Floor) (a b : ℕ) → price f a b ≡ fare_between f (clear f a b) (slowly f a b) a b
unfolding price
price-fare f a b = refl

pub price-low : (f : Floor) (a b : ℕ) → 1 ≤ price f a b → least_price ≤ price f a b
unfolding price
price-low f a b = fare-low f (clear f a b) (slowly f a b) a b

pub price-high : (f : Floor) (a b : ℕ) → price f a b ≤ dearest_price
unfolding price
price-high f a b = fare-high f (clear f a b) (slowly f a b) a b

pub price_same : (f : Floor) (a b : ℕ) → price f a b ≡ price f b a
unfolding price
price_same f a b = fare_same f (clear f a b) (clear f b a) (slowly f a b) (slowly f b a) a b (clear_same f a b) (slowly_same f a b)

pub price-clear : (f : Floor) (a b : ℕ) → 1 ≤ price f a b → T (clear f a b)
unfolding price
price-clear f a b = fare-clear f (clear f a b) (slowly f a b) a b

pub price-free : (f : Floor) (a b : ℕ) → 1 ≤ price f a b → T (free f a)
price-free f a b h = clear-free f a b (price-clear f a b h)

-- the goals are those cells of the list that are on the floor
abbrev pub is_goal : Floor → List ℕ → ℕ → Bool
is_goal f goals x = ltb x (size f) && member x goals

abbrev pub ground_of : Floor → List ℕ → Ground
ground_of f goals = record {
  cells = size f;
  price = price f;
  goal = is_goal f goals;
  least = least_price;
  dearest = dearest_price;
  positive = omega arith;
  low = price-low f;
  high = price-high f;
  same = price_same f;
  inside = λ a b h. free-inside f a (price-free f a b h);
  goals-inside = λ x h. ltb→lt x (size f) (both_first (ltb x (size f)) (member x goals) h);
}
