-- Rings and the last ring depend only on which moves there are, not on their prices.
use Prim.Native.Nat.{ℕ, ◌+◌, ◌≤◌, ◌<◌}
use mathlib.Core.Path.{◌≡◌, refl, sym, subst}
use mathlib.Core.Logic.{◌⊎◌, inl, inr}
use native.Mathlib.Nat.{le_antisymm}
use native.Mathlib.Decide.{dec_le}
use native.Mathlib.Omega.{arith}
use lib.Dec.{T}
use Rattle.learning.specs.Walk.{Walk, stop, move, Any}
use Rattle.learning.specs.Ahead.{Window}
use Rattle.learning.specs.Ground.{Ground, Goal, net_of, ring_of, last_of, leg_of}
use Rattle.learning.proofs.Ground.{ring-low, ring_walk, window}
use Rattle.learning.proofs.Same.{window_same}

-- The same cells and goals, and a move of the one is a move of the other.
pub record SameMoves (A B : Ground) : Type 0 where
  pub cells : A.cells ≡ B.cells
  pub goals : (x : ℕ) → A.goal x ≡ B.goal x
  pub there : (a b : ℕ) → 1 ≤ A.price a b → 1 ≤ B.price a b
  pub back : (a b : ℕ) → 1 ≤ B.price a b → 1 ≤ A.price a b

pub same_turn : {A B : Ground} → SameMoves A B → SameMoves B A
same_turn M = record { cells = sym M.cells; goals = λ x. sym (M.goals x); there = M.back; back = M.there }

moves_there : {A B : Ground} → SameMoves A B → {a z c n : ℕ} → Walk (net_of A) Any a z c n → (e : ℕ) × Walk (net_of B) Any a z e n
moves_there M (stop s) = (0, stop s)
moves_there {A} {B} M (move {a = a} {b = b} s f w) =
    let (e, v) = moves_there M w in
    (B.price a b + e, move s (M.there a b (omega (arith, f.0, f.1)), refl) v)

module _ {A B : Ground} (M : SameMoves A B) (d s : ℕ) (floor : s < A.cells) where
  ring-below : (x : ℕ) → ring_of A d s x ≤ d → ring_of B d s x ≤ ring_of A d s x
  ring-below x h =
      let (c, w) = ring_walk A d s floor x h in
      let (e, v) = moves_there M w in
      ring-low B d s (omega (arith, M.cells)) x e (ring_of A d s x) v

module _ {A B : Ground} (M : SameMoves A B) (d s : ℕ) (floor : s < A.cells) where
  floor' : s < B.cells
  floor' = omega (arith, M.cells)

  pub ring-moves : (x : ℕ) → ring_of A d s x ≤ d → ring_of B d s x ≡ ring_of A d s x
  ring-moves x h = let l = ring-below M d s floor x h in le_antisymm l (ring-below (same_turn M) d s floor' x (omega arith))

  module _ (deep : 1 ≤ d) (g : ¬ Goal A s) where
    W : Window (net_of A) (Goal A) d s (last_of A d s) (ring_of A d s) (leg_of A d s)
    W = window A d s floor deep g

    W' : Window (net_of B) (Goal B) d s (last_of B d s) (ring_of B d s) (leg_of B d s)
    W' = window B d s floor' deep (λ h. g (subst T (sym (M.goals s)) h))

    last_above : last_of B d s ≤ last_of A d s
    last_above = pick W.ends
      where
        pick : (last_of A d s ≡ d) ⊎ ((z : ℕ) × Goal A z × (ring_of A d s z ≡ last_of A d s)) → last_of B d s ≤ last_of A d s
        pick (inl e) = omega (arith, W'.depth)
        pick (inr (z, h, e)) = omega (arith, W'.goals z (subst T (M.goals z) h), ring-moves z (omega (arith, W.depth)))

module _ {A B : Ground} (M : SameMoves A B) (d s : ℕ) (floor : s < A.cells) (deep : 1 ≤ d) (g : ¬ Goal A s) where
  pub last_moves : last_of B d s ≡ last_of A d s
  last_moves = le_antisymm (last_above M d s floor deep g) (last_above (same_turn M) d s (floor' M d s floor) deep (λ h. g (subst T (sym (M.goals s)) h)))

  -- so B's window is told by A's rings, with B's costs, or any that are the same inside it
  pub window-moves : (cost : ℕ → ℕ) → ((x : ℕ) → ring_of A d s x ≤ last_of A d s → cost x ≡ leg_of B d s x)
      → Window (net_of B) (Goal B) d s (last_of A d s) (ring_of A d s) cost
  window-moves cost same =
      window_same (ring_of A d s) cost (subst (λ m. Window (net_of B) (Goal B) d s m (ring_of B d s) (leg_of B d s)) last_moves (W' M d s floor deep g))
      (λ x h. (ring x h, same x (omega (arith, ring x h)))) (λ x h. far x h (dec_le (ring_of A d s x) (last_of A d s)))
    where
      short : last_of A d s ≤ d
      short = (W M d s floor deep g).depth

      ring : (x : ℕ) → ring_of B d s x ≤ last_of A d s → ring_of A d s x ≡ ring_of B d s x
      ring x h = ring-moves (same_turn M) d s (floor' M d s floor) x (omega (arith, short))

      far : (x : ℕ) → last_of A d s < ring_of B d s x → Dec (ring_of A d s x ≤ last_of A d s) → last_of A d s < ring_of A d s x
      far x h (yes l) = absurd (omega (arith, ring-moves M d s floor x (omega (arith, short))))
      far x h (no l) = omega arith
