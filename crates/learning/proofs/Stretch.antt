-- Walks on a stretched ground are the ground's, each at k times its cost and e for each move; windows have the same rings.
use Prim.Native.Nat.{ℕ, ◌+◌, ◌*◌, ◌≤◌}
use mathlib.Core.Path.{◌≡◌, refl, ◌∙◌, ap}
use native.Mathlib.Nat.{mul-add, mul-pos}
use native.Mathlib.Omega.{arith}
use Rattle.learning.specs.Walk.{Walk, stop, move}
use Rattle.learning.specs.Ground.{Ground, net_of}
use Rattle.learning.specs.Stretch.{stretched, stretched-move, stretched_some, stretch}
use Rattle.learning.proofs.Walks.{restate}
use Rattle.learning.proofs.Moves.{SameMoves}

module _ (G : Ground) (k e : ℕ) (some : 1 ≤ k) where
  one_more : (c b n : ℕ) → (k * c + e) + (k * b + e * n) ≡ k * (c + b) + e * (n + 1)
  one_more c b n = omega (arith, mul-add k c b, mul-add e n 1)

  pub stretch_walk : {S : ℕ → Type 0} {a z c n : ℕ} → Walk (net_of G) S a z c n → Walk (net_of (stretch G k e)) S a z (k * c + e * n) n
  stretch_walk (stop s) = restate (omega arith) refl (stop s)
  stretch_walk (move {a = a} {b = b} {c = c} {k = r} {n = n} s f w) =
      let at = stretched-move k e (G.price a b) (omega (arith, f.0, f.1)) in
      let there : stretched k e (G.price a b) ≡ k * c + e = at ∙ ap (λ (y : ℕ). k * y + e) f.1 in
      restate (omega (arith, one_more c r n)) refl (move {c = k * c + e} s (omega (arith, mul-pos some f.0), there) (stretch_walk w))

  pub shrink_walk : {S : ℕ → Type 0} {a z v n : ℕ} → Walk (net_of (stretch G k e)) S a z v n → (c : ℕ) × Walk (net_of G) S a z c n × (k * c + e * n ≡ v)
  shrink_walk (stop s) = (0, stop s, omega arith)
  shrink_walk (move {a = a} {b = b} {c = v} {n = n} s f w) =
      let (c, u, h) = shrink_walk w in
      let l = stretched_some k e (G.price a b) (omega (arith, f.0, f.1)) in
      (G.price a b + c, move s (l, refl) u, omega (arith, f.1, stretched-move k e (G.price a b) l, one_more (G.price a b) c n))

  pub stretch-moves : SameMoves G (stretch G k e)
  stretch-moves = record {
    cells = refl;
    goals = λ x. refl;
    there = λ a b h. omega (arith, stretched-move k e (G.price a b) h, mul-pos some h);
    back = λ a b h. stretched_some k e (G.price a b) h;
  }
