-- What document 02 says of stored lines, from what `with_depth` promises: "a converted line must print what it printed before. Lines that give a depth are copied byte for byte."
-- What the call answers and leaves is the model's, and of that Converted says it.
use Prim.Native.Nat.{ℕ, ◌≤◌}
use mathlib.Core.Path.{◌≡◌, sym, ap, ◌∙◌}
use mathlib.Core.Option.{some}
use mathlib.Core.List.{List, ◌++◌}
use lib.ListN.{length, take}
use Rattle.std.specs.Prelude.{Ok}
use Rattle.model.specs.Line.{numbers_in, aisle_by, aisle}
use Rattle.model.specs.KeepDepth.{old_depth, line_form, with_old_depth, depth_verdict, with_depth}
use Rattle.model.specs.Writing.{Writes}
use Rattle.model.proofs.Accepted.{then_done}
use Rattle.model.proofs.Converted.{given_depth_is_copied, formed_prints_the_same}
use Rattle.model.proofs.Writings.{writes_told}

-- a line that was written with its depth in n bytes of the buffer
module _ (line buffer : List ℕ) {n : ℕ} {b : List ℕ} (w : Writes (with_depth line buffer) (Ok n) b) where
  told : (depth_verdict line (length buffer) ≡ Ok tt) × (n ≡ length (with_old_depth line)) × (take n b ≡ with_old_depth line)
  unfolding with_depth
  told = writes_told (depth_verdict line (length buffer)) (with_old_depth line) buffer w

  formed : line_form line ≡ Ok tt
  unfolding depth_verdict
  formed = (then_done _ _ told.0).0

  -- whatever text stands after it, `aisle` prints of these bytes what it printed of the line while depth 1 was the default
  pub line_with_depth_prints_the_same : (text : List ℕ) → aisle_by old_depth (line ++ text) ≡ aisle (take n b ++ text)
  line_with_depth_prints_the_same text = formed_prints_the_same line formed text ∙ ap (λ (l : List ℕ). aisle (l ++ text)) (sym told.2)

  -- and of three numbers or more they are the line
  pub line_with_depth_is_copied : (ns : List ℕ) → numbers_in 0 0 line ≡ some ns → 3 ≤ length ns → take n b ≡ line
  line_with_depth_is_copied ns e h = told.2 ∙ given_depth_is_copied line ns e h
