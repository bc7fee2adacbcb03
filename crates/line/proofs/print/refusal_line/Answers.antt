-- `line::print::refusal_line` meets its contract: a word, the number, any place and the LF, one after another.
use Rattle.std.proofs.Common.{arith}
use Rattle.model.specs.Line.{refusal_line}
use Rattle.notation.proofs.Prints.{prints_then, same_length}
use Rattle.line.proofs.print.refusal_line.Goals as goal
use Rattle.line.proofs.print.refusal_line.Goals.{After-field}

pub place-requires : goal.place-requires
place-requires c =
    omega (arith, c.requires, same_length c.bytes.ensures, c.bytes.ensures.printed.next, same_length c.field.ensures.printed, c.field.ensures.short)

pub byte-requires : goal.byte-requires
byte-requires c =
    omega (
      arith,
      c.requires,
      same_length c.bytes.ensures,
      c.bytes.ensures.printed.next,
      same_length c.field.ensures.printed,
      c.field.ensures.short,
      same_length c.place.ensures.printed,
      c.place.ensures.short,
    )

pub returns : goal.returns
unfolding refusal_line
returns c =
    prints_then c.bytes.ensures (prints_then c.field.ensures.printed (prints_then c.place.ensures.printed c.byte.ensures))
