-- Document 02 on smoother routes: on a floor without slow cells they are document 01's.
-- Two walks there from one cell to another, both of one cost below 140, have equally many moves; and no leg costs more than 8 × 14 = 112.
use Prim.Native.Nat.{ℕ, zero, suc, ◌+◌, ◌-◌, ◌*◌, ◌/◌, ◌%◌, ◌≤◌, ◌<◌}
use mathlib.Core.Path.{◌≡◌, refl, sym, ap₂, ◌∙◌, subst}
use mathlib.Core.Bool.{false, ◌||◌}
use mathlib.Core.List.{List}
use native.Mathlib.Nat.{le_antisymm}
use native.Mathlib.Omega.{arith}
use lib.Dec.{T}
use Rattle.learning.specs.Walk.{Walk, stop, move}
use Rattle.learning.specs.Ground.{net_of, ring_of, last_of, leg_of}
use Rattle.learning.proofs.Route.{leg-high}
use Rattle.learning.proofs.Finer.{route_steady}
use Rattle.answers.specs.declared.Job.{Job}
use Rattle.model.specs.Floor.{Floor, size, column, row, slow, apart, straight, diagonal, tariff, price}
use Rattle.model.specs.Grounds.{ground_of}
use Rattle.model.specs.Checks.{deepest, floor_of, goals, ground_in}
use Rattle.model.specs.Lookahead.{seen, w, fineness, route}
use Rattle.model.specs.Decision.{at_goal}
use Rattle.model.proofs.Moves.{Priced, priced}
use Rattle.model.proofs.Meaning.{window_means, InWindow, CheapIn}
use Rattle.model.proofs.Chosen.{first_route}

-- column and row added: a straight move changes the sum by 1, a diagonal one by 0 or 2
abbrev side : Floor → ℕ → ℕ
side f x = column f x + row f x

-- n moves from a to z that cost c, by kind: whether the straight ones are evenly many, the two sides tell
record Mixed (f : Floor) (a z c n : ℕ) : Type 0 where
  straights : ℕ
  diagonals : ℕ
  cost : c ≡ straight * straights + diagonal * diagonals
  moves : n ≡ straights + diagonals
  parity : (side f a + side f z + straights) % 2 ≡ 0

-- at one cost, straight moves more are 7 for each 5 diagonal ones fewer, and evenly many, so 14 × r for 10 × r; but 14 of them cost 140
-- (r itself: half the straight ones are 7 × r, and 12 × 10 - 17 × 7 = 1)
mixed_low : {f : Floor} {a z c n m : ℕ} → c < 140 → Mixed f a z c n → Mixed f a z c m → m ≤ n
mixed_low {f} {a} {z} {c} {n} {m} l p q =
    by (12 * (p.diagonals - q.diagonals) - 17 * ((side f a + side f z + q.straights) / 2 - (side f a + side f z + p.straights) / 2)) (omega arith)
  where
    by : (r : ℕ) → q.straights - p.straights ≡ 14 * r → m ≤ n
    by zero e = omega arith
    by (suc r) e = absurd (omega arith)

module _ (f : Floor) (gs : List ℕ) (plain : (x : ℕ) → slow f x ≡ false) where
  mixed_move : (a b c : ℕ) → (net_of (ground_of f gs)).Edge a b c → Mixed f a b c 1
  mixed_move a b c (h, q) = by (apart (column f a) (column f b) + apart (row f a) (row f b)) refl (sym q ∙ p.cost)
    where
      p : Priced f false a b (price f a b)
      p = subst (λ s. Priced f s a b (price f a b)) (ap₂ ◌||◌ (plain a) (plain b)) (priced f a b (omega arith))

      by : (n : ℕ) → apart (column f a) (column f b) + apart (row f a) (row f b) ≡ n → c ≡ tariff n → Mixed f a b c 1
      by zero e c = absurd (omega (arith, p.some))
      by (suc zero) e c = record { straights = 1; diagonals = 0; cost = c; moves = refl; parity = omega (arith, e, p.columns, p.rows) }
      by (suc (suc zero)) e c = record { straights = 0; diagonals = 1; cost = c; moves = refl; parity = omega (arith, e, p.columns, p.rows) }
      by (suc (suc (suc n))) e c = absurd (omega (arith, p.columns, p.rows))

  mixed_walk : {S : ℕ → Type 0} {a z c n : ℕ} → Walk (net_of (ground_of f gs)) S a z c n → Mixed f a z c n
  mixed_walk (stop s) = record { straights = 0; diagonals = 0; cost = refl; moves = refl; parity = omega arith }
  mixed_walk (move {a = a} {b = b} {c = c} s e t) =
      let p = mixed_move a b c e in
      let q = mixed_walk t in
      record { straights = p.straights + q.straights; diagonals = p.diagonals + q.diagonals; cost = omega arith; moves = omega arith; parity = omega arith }

module _ (j : Job) (bytes : List ℕ) (s : ℕ) (deep : 1 ≤ j.depth) (floor : s < size (floor_of j bytes)) (aside : at_goal j bytes s ≡ false) (shallow : j.depth ≤ deepest)
    (plain : (x : ℕ) → slow (floor_of j bytes) x ≡ false)
  where
    leg-below : (x : ℕ) → InWindow j bytes s deep floor aside x → w j bytes (seen j bytes s) x < 140
    leg-below x h =
        let W = window_means j bytes s deep floor aside in
        omega (arith, h, W.depth, leg-high W diagonal (λ a b c e. dear (mixed_move (floor_of j bytes) (goals j) plain a b c e)) x h)
      where
        dear : {a b c : ℕ} → Mixed (floor_of j bytes) a b c 1 → c ≤ diagonal
        dear p = omega arith

    no_fewer : (x m n : ℕ) → InWindow j bytes s deep floor aside x → CheapIn j bytes s deep floor aside x m → CheapIn j bytes s deep floor aside x n → m ≤ n
    no_fewer x m n h p q = mixed_low (leg-below x h) (mixed_walk (floor_of j bytes) (goals j) plain q) (mixed_walk (floor_of j bytes) (goals j) plain p)

    pub plain_floors_keep_their_routes : (x : ℕ) → InWindow j bytes s deep floor aside x → route j bytes s x ≡ first_route j bytes s x
    unfolding route ring_of last_of leg_of
    plain_floors_keep_their_routes =
        route_steady (ground_in j bytes) fineness j.depth s (omega arith) deep floor (λ g. subst T aside g) (omega arith)
        (λ x m n h p q. le_antisymm (no_fewer x m n h p q) (no_fewer x n m h q p))
