-- `line::print::last_line` meets its contract: a word, a field and the LF, one after another.
use Rattle.std.proofs.Common.{arith}
use Rattle.notation.proofs.Prints.{prints_then, same_length}
use Rattle.line.proofs.print.last_line.Goals as goal

pub byte-requires : goal.byte-requires
byte-requires c =
    omega (arith, c.requires, same_length c.said.ensures.printed, c.said.ensures.short, same_length c.field.ensures.printed, c.field.ensures.short)

pub returns : goal.returns
returns c = prints_then c.said.ensures.printed (prints_then c.field.ensures.printed c.byte.ensures)
