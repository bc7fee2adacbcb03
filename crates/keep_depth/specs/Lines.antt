-- What copying the lines of a part promises, whatever follows it.
use Rattle.std.specs.Prelude.{ℕ, ◌+◌, ◌*◌, ◌≤◌, ◌<◌, ◌≡◌, List, ◌++◌, length, take, drop, IfOk, IfErr}
use Rattle.answers.specs.declared.Place.TheVariants as P
use Rattle.model.specs.Basics.{refuse_at}
use Rattle.model.specs.KeepDepth.{Unended, lines_of, ahead, copy_lines}
use Rattle.keep_depth.specs.declared.lines.Reach.{Reach}

-- Room for all of a part's lines, and numbers for them: a line has one byte at least and gets two more at most.
pub record Fits (bytes : List ℕ) (first : ℕ) (out : List ℕ) : Type 0 where
  pub room : 3 * length bytes ≤ length out
  pub counted : first + length bytes < 18446744073709551616

-- so much of a part is done with, up to a line that has no LF yet: whatever follows, what is told of the whole is what is written and then what is told of that line on
pub record Goes (bytes : List ℕ) (first : ℕ) (c : Reach) (out : List ℕ) (done : ℕ) : Type 0 where
  pub within : done ≤ length bytes
  pub counted : c.line ≤ first + done
  pub unended : Unended (drop done bytes)
  pub told : (rest : List ℕ) → copy_lines first (lines_of (bytes ++ rest)) ≡ ahead (take c.wrote out) (copy_lines c.line (lines_of (drop done bytes ++ rest)))

-- so much of a part is done with, up to a malformed line: whatever follows, nothing is told from it on, and its number
pub record Stops (bytes : List ℕ) (first : ℕ) (c : Reach) (out : List ℕ) (done : ℕ) : Type 0 where
  pub within : done ≤ length bytes
  pub counted : c.line ≤ first + done
  pub told : (rest : List ℕ) → copy_lines first (lines_of (bytes ++ rest)) ≡ record { written = take c.wrote out; verdict = refuse_at 3 (P.Line c.line) }

-- how far a part is copied, its first line having that number
pub record Copies (bytes : List ℕ) (first : ℕ) (c : Reach) (out : List ℕ) : Type 0 where
  -- so much is written, and so many lines are counted
  pub room : c.wrote ≤ length out
  pub counted : c.line ≤ first + length bytes
  pub goes : IfOk c.done (Goes bytes first c out)
  pub stopped : IfErr c.done (Stops bytes first c out)
