-- What a printer does: it writes some bytes from its place on, moves its place after them, and writes into the same list still.
use Rattle.std.specs.Prelude.{ℕ, ◌+◌, ◌≡◌, ◌≤◌, List, length}
use Rattle.notation.specs.Printing.{Printed}
use Rattle.notation.specs.declared.print.Printer.{Printer}

pub record Prints (p : Printer) (text : List ℕ) (p' : Printer) : Type 0 where
  pub lent : p'.out.ghost_name ≡ p.out.ghost_name
  pub printed : Printed p.out.now p.at text p'.out.now p'.at

-- n bytes more find room
abbrev pub HasRoom : Printer → ℕ → Type 0
HasRoom p n = p.at + n ≤ length p.out.now
