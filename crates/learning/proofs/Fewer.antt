-- Fewer moves, or dearer ones: where each move of A is a move of B at no greater price and each goal of A is one of B, no distance in B is
-- greater, what reaches a goal in A reaches one in B, and so a table that is sound for B is sound for A.
use Prim.Native.Nat.{ℕ, ◌+◌, ◌≤◌}
use mathlib.Core.Path.{◌≡◌, refl, sym, ◌∙◌}
use mathlib.Core.List.{List}
use native.Mathlib.Nat.{le_trans, mul-le-mul_left}
use native.Mathlib.Omega.{arith}
use Rattle.learning.specs.Walk.{Walk, stop, move, Arrives, Reaches}
use Rattle.learning.specs.Trial.{Sound}
use Rattle.learning.specs.Ground.{Ground, Goal, net_of, dist_of, job_of}
use Rattle.learning.proofs.Ground.{dist-least}

module _ (A B : Ground) (goals : (x : ℕ) → Goal A x → Goal B x)
    (moves : (a b : ℕ) → 1 ≤ A.price a b → (1 ≤ B.price a b) × (B.price a b ≤ A.price a b))
  where
    walk_there : {S : ℕ → Type 0} {a z c n : ℕ} → Walk (net_of A) S a z c n → (e : ℕ) × Walk (net_of B) S a z e n × (e ≤ c)
    walk_there (stop s) = (0, stop s, omega arith)
    walk_there (move {a = a} {b = b} s f w) =
        let (e, v, h) = walk_there w in
        let (some, less) = moves a b (omega (arith, f.0, f.1)) in
        (B.price a b + e, move s (some, refl) v, omega (arith, f.1))

    arrives_there : (x c : ℕ) → Arrives (net_of A) (Goal A) x c → (e : ℕ) × Arrives (net_of B) (Goal B) x e × (e ≤ c)
    arrives_there x c (z, g, (n, w)) = let (e, v, h) = walk_there w in (e, (z, goals z g, (n, v)), h)

    pub reaches_there : (x : ℕ) → Reaches (net_of A) (Goal A) x → Reaches (net_of B) (Goal B) x
    reaches_there x (c, a) = let (e, b, h) = arrives_there x c a in (e, b)

    pub dist_there : (x : ℕ) → Reaches (net_of A) (Goal A) x → dist_of B x ≤ dist_of A x
    dist_there x r =
        let (e, b, h) = arrives_there x (dist_of A x) (dist-least A x r).met in
        le_trans ((dist-least B x (reaches_there x r)).low e b) h

    pub sound_here : A.cells ≡ B.cells → (q : ℕ) {d p t d' p' t' : ℕ} {table : List ℕ} → Sound (job_of B d p q t) table → Sound (job_of A d' p' q t') table
    sound_here e q S = record { size = S.size ∙ sym e; low = λ x r. le_trans (S.low x (reaches_there x r)) (mul-le-mul_left q (dist_there x r)) }
