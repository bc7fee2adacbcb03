-- A certificate for true distances, in whatever order they were found: a row that is 0 at the goals, whose entries below a
-- top are attained by walks, and that no move can lower, is the ground's. The top is more than any distance and stands for none.
use Prim.Native.Nat.{ℕ, ◌+◌, ◌-◌, ◌*◌, ◌≤◌, ◌<◌}
use mathlib.Core.Path.{◌≡◌, refl}
use mathlib.Core.Bool.{Bool, true, false}
use native.Mathlib.Nat.{mul-le-mul_left}
use native.Mathlib.Decide.{dec_le}
use native.Mathlib.Omega.{arith}
use Rattle.learning.specs.Walk.{Any, Arrives, Reaches}
use Rattle.learning.specs.Ground.{Ground, Goal, net_of, pick, reach_of, dist_of}
use Rattle.learning.proofs.Walks.{least_unique}
use Rattle.learning.proofs.Ceiling.{least-high}
use Rattle.learning.proofs.Route.{closed-low}
use Rattle.learning.proofs.Ground.{on_floor, dist-least, reach_of_lem, reach-true}

-- the true distance is at most the dearest move for each cell but one
pub dist-high : (G : Ground) (x : ℕ) → Reaches (net_of G) (Goal G) x → dist_of G x ≤ G.dearest * (G.cells - 1)
dist-high G x r =
    least-high G.cells G.dearest (λ y c a. on_floor G y (c, a)) (λ a b c e. omega (arith, e.1, G.high a b)) x (dist_of G x) (dist-least G x r)

pub record Certified (G : Ground) (top : ℕ) (row : ℕ → ℕ) : Type 0 where
  -- no entry is above the top
  pub high : (x : ℕ) → x < G.cells → row x ≤ top
  -- a goal has none of its own
  pub zeros : (z : ℕ) → Goal G z → row z ≤ 0
  -- an entry below the top is the cost of a walk
  pub met : (x : ℕ) → x < G.cells → row x < top → Arrives (net_of G) (Goal G) x (row x)
  -- no move leads to a lower sum
  pub closed : (x b : ℕ) → 1 ≤ G.price x b → row x ≤ G.price x b + row b

fewer : (k : ℕ) → k - 1 ≤ k
fewer k = omega arith

module _ (G : Ground) (top : ℕ) (row : ℕ → ℕ) (large : G.dearest * G.cells < top) (C : Certified G top row) where
  low : (x c : ℕ) → Arrives (net_of G) (Goal G) x c → row x ≤ c
  low x c (z, g, (n, w)) = closed-low {N = net_of G} {S = Any} {Goal = Goal G} row C.zeros (λ a b k s e. omega (arith, e.0, e.1, C.closed a b (omega (arith, e.0, e.1)))) g w

  reached : (x : ℕ) → Reaches (net_of G) (Goal G) x → row x ≡ dist_of G x
  reached x r =
      let l = dist-least G x r in
      let inside = on_floor G x r in
      let short = low x (dist_of G x) l.met in
      let near : dist_of G x < top = omega (arith, dist-high G x r, mul-le-mul_left G.dearest (fewer G.cells)) in
      least_unique (record { met = C.met x inside (omega arith); low = low x }) l

  -- the row is the true distances, and the top where there is none
  pub certificate : (x : ℕ) → x < G.cells → row x ≡ pick (reach_of G x) (dist_of G x) top
  certificate x h = by (reach_of G x) refl
    where
      by : (b : Bool) → reach_of G x ≡ b → row x ≡ pick b (dist_of G x) top
      by true e = reached x (reach-true G x (rw e tt))
      by false e = far (dec_le top (row x))
        where
          far : Dec (top ≤ row x) → row x ≡ top
          far (yes l) = omega (arith, C.high x h)
          far (no l) = absurd (rw e at (reach_of_lem G x (row x, C.met x h (omega arith))))
