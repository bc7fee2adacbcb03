-- `line::print::counts` meets its contract: four fields and the LF, one after another, of at most 21 bytes each.
use Rattle.std.proofs.Common.{arith}
use Rattle.notation.proofs.Prints.{prints_then, same_length}
use Rattle.line.proofs.print.counts.Goals as goal
use Rattle.line.proofs.print.counts.Goals.{After-field, After-field-2, After-field-3}

pub field-requires-2 : goal.field-requires-2
field-requires-2 c = omega (arith, c.requires, same_length c.field.ensures.printed, c.field.ensures.short)

pub field-requires-3 : goal.field-requires-3
field-requires-3 c =
    omega (arith, c.requires, same_length c.field.ensures.printed, c.field.ensures.short, same_length c.field-2.ensures.printed, c.field-2.ensures.short)

pub field-requires-4 : goal.field-requires-4
field-requires-4 c =
    let three = c.field-3.ensures in
    omega (
      arith,
      c.requires,
      same_length c.field.ensures.printed,
      c.field.ensures.short,
      same_length c.field-2.ensures.printed,
      c.field-2.ensures.short,
      same_length three.printed,
      three.short,
    )

pub byte-requires : goal.byte-requires
byte-requires c =
    let three = c.field-3.ensures in
    let four = c.field-4.ensures in
    omega (
      arith,
      c.requires,
      same_length c.field.ensures.printed,
      c.field.ensures.short,
      same_length c.field-2.ensures.printed,
      c.field-2.ensures.short,
      same_length three.printed,
      three.short,
      same_length four.printed,
      four.short,
    )

pub returns : goal.returns
returns c =
    prints_then c.field.ensures.printed (prints_then c.field-2.ensures.printed
    (prints_then c.field-3.ensures.printed (prints_then c.field-4.ensures.printed c.byte.ensures)))
