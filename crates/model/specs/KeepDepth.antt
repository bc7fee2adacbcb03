-- Stored lines with their depth: one line, and the program `keep_depth`, which "copies a list of lines and writes the old depth into those that leave it out".
use Rattle.std.specs.Prelude.{ℕ, suc, ◌-◌, ◌*◌, ◌<◌, ◌≡◌, Bool, true, false, List, [], ◌∷◌, ◌++◌, leb, eqb, length, get_or, take}
use Rattle.std.proofs.Math.Option.{Option, none, some}
use Rattle.answers.specs.declared.Place.TheVariants as P
use Rattle.answers.specs.declared.Settings.{Settings}
use Rattle.answers.specs.Outcomes.{Verdict}
use Rattle.std.specs.Prelude.{Ok, Err}
use Rattle.model.specs.Basics.{choose, refuse_at, then, unless}
use Rattle.model.specs.FloorText.{LF}
use Rattle.model.specs.Line.{numbers_in, after_line, settings_of, field}
use Rattle.model.specs.Writing.{file_room, WriteOutcome, write_of}

-- "Stored lines of two numbers relied on 1"
abbrev pub old_depth : ℕ
old_depth = 1

-- How many numbers a line has, by `aisle`'s own rule of form; 0 where it is malformed. No range is judged
abbrev pub is_asked : Option Settings → Bool
is_asked none = false
is_asked (some s) = true

abbrev pub given_of : Option (List ℕ) → ℕ
given_of none = 0
given_of (some ns) = choose (is_asked (settings_of ns)) (length ns) 0

-- the line at the front of an input,
unfoldable pub numbers_first : List ℕ → ℕ
numbers_first input = given_of (numbers_in 0 0 input)

-- and a line by itself, whose LF is its last byte
unfoldable pub numbers_given : List ℕ → ℕ
numbers_given line = choose (eqb (length (after_line line)) 0) (numbers_first line) 0

-- "3 for a malformed line"
unfoldable pub line_form : List ℕ → Verdict
line_form line = unless (leb 1 (numbers_given line)) 3

-- The old depth ahead of the LF of a line that leaves it out, all else as it stood. "Lines that give a depth are copied byte for byte."
unfoldable pub with_old_depth : List ℕ → List ℕ
with_old_depth line = choose (eqb (numbers_given line) 2) (take (length line - 1) line ++ (field old_depth ++ (LF ∷ []))) line

-- one line: 3, then 17; it fills the list from the first byte, answers the length and touches nothing beyond
unfoldable pub depth_verdict : (line : List ℕ) → (room : ℕ) → Verdict
depth_verdict line room = then (line_form line) (file_room (length (with_old_depth line)) room)

unfoldable pub with_depth : (line buffer : List ℕ) → WriteOutcome
with_depth line buffer = write_of (depth_verdict line (length buffer)) (with_old_depth line) buffer

-- the lines of a text, each with its LF; what stands after the last LF is a line without one
abbrev pub in_front : ℕ → List (List ℕ) → List (List ℕ)
in_front b [] = (b ∷ []) ∷ []
in_front b (l ∷ ls) = (b ∷ l) ∷ ls

unfoldable pub lines_of : List ℕ → List (List ℕ)
lines_of [] = []
lines_of (b ∷ bs) = elim (eqb b LF) [ true ↦ (b ∷ []) ∷ lines_of bs | false ↦ in_front b (lines_of bs) ]

-- no byte of it is an LF
abbrev pub Unended : List ℕ → Type 0
Unended bytes = (k : ℕ) → k < length bytes → get_or bytes k 0 ≡ LF → ⊥

-- what is written of a list of lines, and what is said at the end of it
pub record Copied : Type 0 where
  pub written : List ℕ
  pub verdict : Verdict

abbrev pub ahead : List ℕ → Copied → Copied
ahead copy c = record { written = copy ++ c.written; verdict = c.verdict }

-- A refusal is told "with its line number; nothing is written from that line on."
abbrev pub copy_by : Verdict → (line : ℕ) → (copy : List ℕ) → Copied → Copied
copy_by (Ok _) line copy rest = ahead copy rest
copy_by (Err r) line copy rest = record { written = []; verdict = refuse_at r.number (P.Line line) }

-- lines in their order, the first of them being the line of that number
unfoldable pub copy_lines : (line : ℕ) → List (List ℕ) → Copied
copy_lines line [] = record { written = []; verdict = Ok tt }
copy_lines line (l ∷ ls) = copy_by (line_form l) line (with_old_depth l) (copy_lines (suc line) ls)

-- The longest line that is of the form: seven numbers of seven digits, each with the space or LF after it. Whoever has seen so many bytes of a line without its LF has seen that it is malformed.
abbrev pub longest_line : ℕ
longest_line = 7 * 8

-- the program `keep_depth`; lines are counted from 1
unfoldable pub keep_depth : List ℕ → Copied
keep_depth input = copy_lines 1 (lines_of input)
