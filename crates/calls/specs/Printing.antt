-- Answers printed: into the printer's own list, and no more bytes than are allowed for.
use Rattle.std.specs.Prelude.{ℕ, ◌+◌, ◌≡◌, ◌≤◌, length, Option, Some, None}
use Rattle.notation.specs.declared.print.Printer.{Printer}
use Rattle.calls.specs.declared.rooms.TheConstants.{LONGEST}

-- at most n bytes are printed
pub record PrintsFew (n : ℕ) (p p' : Printer) : Type 0 where
  pub lent : p'.out.ghost_name ≡ p.out.ghost_name
  pub same : length p'.out.now ≡ length p.out.now
  pub onward : p.at ≤ p'.at
  pub short : p'.at ≤ p.at + n

-- what a call prints is a line but for its LF; nothing is printed where it is malformed
abbrev pub most_of : Option Unit → ℕ
most_of (Some _) = LONGEST
most_of None = 0

abbrev pub Answers : Option Unit → Printer → Printer → Type 0
Answers answer p p' = PrintsFew (most_of answer) p p'
