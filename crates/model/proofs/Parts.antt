-- Parts of a list as code takes them.
use mathlib.Core.Path.{◌≡◌, sym, ap, ◌∙◌}
use mathlib.Core.List.{List, [], ◌∷◌}
use Prim.Native.Nat.{ℕ, zero, suc, ◌+◌, ◌-◌, ◌≤◌}
use native.Mathlib.Omega.{arith}
use lib.ListN.{length, take, drop, length-drop, drop_of_length-le}
use lib.Seq.{take_all, take-nil, drop-drop}
use Rattle.model.specs.Basics.{at_end}

-- a list's end, where something is taken off its front
pub end_behind : (m k : ℕ) (t : List ℕ) → k + m ≤ length t → at_end m (drop k t) ≡ at_end m t
end_behind m k t h =
    let z : k + (length (drop k t) - m) ≡ length t - m = omega (arith, length-drop k t) in
    drop-drop (length (drop k t) - m) k t ∙ ap (λ (n : ℕ). drop n t) z

-- the remaining part, and nothing past the end
pub rest : (n : ℕ) (t : List ℕ) → take (length t - n) (drop n t) ≡ drop n t
rest n t = take_all (length t - n) (drop n t) (rw (length-drop n t) (omega arith))

pub rest_end : (n : ℕ) (t : List ℕ) → length t ≤ n → take (length t - length t) (drop (length t) t) ≡ drop n t
rest_end n t h = rw (drop_of_length-le t {i = length t} (omega arith), drop_of_length-le t {i = n} h) (take-nil (length t - length t))

-- what is left of a list's first bytes once some are taken off
pub drop-cut : (k m : ℕ) (t : List ℕ) → drop k (take m t) ≡ take (m - k) (drop k t)
drop-cut zero m t = let e : m - 0 ≡ m = omega arith in rw e
drop-cut (suc k) zero t = let e : 0 - suc k ≡ 0 = omega arith in rw e
drop-cut (suc k) (suc m) [] = sym (take-nil (suc m - suc k))
drop-cut (suc k) (suc m) (x ∷ xs) = let e : suc m - suc k ≡ m - k = omega arith in rw e (drop-cut k m xs)
