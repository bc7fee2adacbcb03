-- What copying a list of lines promises, part by part: what is held of an unfinished line, and what is told of all that was read.
use Rattle.std.specs.Prelude.{ℕ, ◌+◌, ◌*◌, ◌≤◌, ◌<◌, ◌≡◌, List, ◌++◌, length, take}
use Rattle.answers.specs.declared.Place.TheVariants as P
use Rattle.answers.specs.Outcomes.{Verdict}
use Rattle.std.specs.Prelude.{Result, Ok, Err, IfNone, IfSome}
use Rattle.model.specs.Basics.{refuse_at}
use Rattle.model.specs.KeepDepth.{Unended, lines_of, ahead, copy_lines, longest_line, keep_depth}
use Rattle.keep_depth.specs.declared.Step.{Step}
use Rattle.keep_depth.specs.declared.Fault.{Fault}
use Rattle.keep_depth.specs.declared.Fault.TheVariants as F

-- So many bytes are read at once. They stand behind what is held of a line, and what is written of all these may be three times as long.
abbrev pub at_once : ℕ
at_once = 65536

abbrev pub kept_room : ℕ
kept_room = longest_line + at_once

abbrev pub copies_room : ℕ
copies_room = 3 * kept_room

-- the lists that the program works on, what is held in the first of them, and numbers enough for the lines of a part
pub record Room (kept : List ℕ) (held : ℕ) (part : List ℕ) (line : ℕ) (out : List ℕ) : Type 0 where
  pub list : length kept ≡ kept_room
  pub piece : length part ≤ at_once
  pub copies : length out ≡ copies_room
  pub few : held < longest_line
  pub counted : line + kept_room < 18446744073709551616

-- a line without its LF is held: whatever follows, what is told of the whole is what is written and then what is told of that line on
pub record Held (kept : List ℕ) (held : ℕ) (part : List ℕ) (line : ℕ) (s : Step) (kept' out' : List ℕ) (left : ℕ) : Type 0 where
  pub few : left < longest_line
  pub unended : Unended (take left kept')
  pub told : (rest : List ℕ) → copy_lines line (lines_of (take held kept ++ (part ++ rest))) ≡ ahead (take s.wrote out') (copy_lines s.line (lines_of (take left kept' ++ rest)))

-- what came of one part more, behind what was held
pub record Stepped (kept : List ℕ) (held : ℕ) (part : List ℕ) (line : ℕ) (s : Step) (kept' out' : List ℕ) : Type 0 where
  -- what is written and how many lines are counted
  pub room : s.wrote ≤ length out'
  pub counted : s.line ≤ line + kept_room
  -- up to a line that has no LF yet, or up to a malformed one, as of a part's lines
  pub goes : IfSome s.held (Held kept held part line s kept' out')
  pub stopped : IfNone s.held ((rest : List ℕ) → copy_lines line (lines_of (take held kept ++ (part ++ rest))) ≡ record { written = take s.wrote out'; verdict = refuse_at 3 (P.Line s.line) })

-- So far of some stream: whatever follows it, what is told of the whole is what was written and then what is told of the line that is held on.
-- That these are the bytes of standard input, and that what was written went out, no contract of the C library says.
abbrev pub Taken : (kept : List ℕ) → (held line : ℕ) → Type 0
Taken kept held line = (all : List ℕ) × (written : List ℕ) × ((rest : List ℕ) → keep_depth (all ++ rest) ≡ ahead written (copy_lines line (lines_of (take held kept ++ rest))))

-- what is said at the end of a stream is what the model says of it
abbrev pub Told : Verdict → Type 0
Told v = (all : List ℕ) × (written : List ℕ) × (keep_depth all ≡ record { written = written; verdict = v })

abbrev pub Ended : Result Unit Fault → Type 0
Ended (Ok _) = Told (Ok tt)
Ended (Err (F.Refused r)) = Told (Err r)
Ended (Err F.Unread) = Unit {0}
Ended (Err F.Unwritten) = Unit {0}
