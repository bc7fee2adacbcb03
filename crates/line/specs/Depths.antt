-- The line from a place of some bytes on, by its form.
use Rattle.std.specs.Prelude.{ℕ, ◌≤◌, ◌<◌, ◌≡◌, List, length, drop}
use Rattle.model.specs.Line.{after_line}
use Rattle.model.specs.KeepDepth.{numbers_first, numbers_given}
use Rattle.line.specs.declared.depth.First.{First}

-- it is malformed
abbrev pub NoLine : (bytes : List ℕ) (from : ℕ) → Type 0
NoLine bytes from = numbers_first (drop from bytes) ≡ 0

pub record FirstLine (bytes : List ℕ) (from : ℕ) (f : First) : Type 0 where
  -- so many numbers, one at least,
  pub count : f.given ≡ numbers_first (drop from bytes)
  pub some : 1 ≤ f.given
  -- and what stands after the line
  pub ended : (drop f.end bytes ≡ after_line (drop from bytes)) × (from < f.end) × (f.end ≤ length bytes)

-- a line by itself has so many numbers, one at least
pub record Gives (line : List ℕ) (given : ℕ) : Type 0 where
  pub count : given ≡ numbers_given line
  pub some : 1 ≤ given
