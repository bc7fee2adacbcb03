-- A copy to the front of a list, one entry more at a time.
-- Assumes nothing.
use mathlib.Core.Path.{◌≡◌, ap, ap₂, sym, ◌∙◌}
use mathlib.Core.List.{List, ◌++◌}
use Prim.Native.Nat.{ℕ, suc, ◌+◌, ◌≤◌, ◌<◌}
use native.Mathlib.Nat.{zero-add}
use native.Mathlib.Numerals.{add-one}
use native.Mathlib.Omega.{arith}
use lib.ListN.{length, get_or, set, take, drop, length-drop}
use lib.Seq.{paste, paste-suc, length-paste, get_or-drop}

module _ (way : List ℕ) (k : ℕ) (out₀ out : List ℕ) (i n : ℕ) (inside : k + n ≤ length way) (h : i ≤ n) (room : n ≤ length out₀) (e : out ≡ take i (drop k way) ++ drop i out₀) where
  abbrev src : List ℕ
  src = drop k way

  -- the front and the rest, as a paste at place 0
  pasted : (m : ℕ) → paste out₀ 0 src m ≡ take m src ++ drop m out₀
  pasted m = ap (λ t. take m src ++ drop t out₀) (zero-add m)

  long : n ≤ length src
  long = omega (arith, length-drop k way, inside)

  pub copied_room : length out ≡ length out₀
  copied_room = ap length (e ∙ sym (pasted i)) ∙ length-paste out₀ 0 src i (omega (arith, room)) (omega (arith, long))

  pub copied_more : i < n → set out i (get_or way (k + i) 0) ≡ take (i + 1) (drop k way) ++ drop (i + 1) out₀
  copied_more l =
      ap₂ (λ o v. set o i v) (e ∙ sym (pasted i)) (sym (get_or-drop k way i 0))
      ∙ ap (λ t. set (paste out₀ 0 src i) t (get_or src i 0)) (sym (zero-add i))
      ∙ paste-suc out₀ 0 src i 0 (omega (arith, room)) (omega (arith, long))
      ∙ pasted (suc i)
      ∙ ap (λ t. take t src ++ drop t out₀) (sym (add-one i))
