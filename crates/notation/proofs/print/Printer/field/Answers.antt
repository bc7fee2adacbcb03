-- `notation::print::Printer::field` meets its contract: a space, and the number after it.
use Rattle.std.proofs.Common.{arith}
use Rattle.notation.proofs.Decimals.{digits_few}
use Rattle.notation.proofs.Prints.{room_left}
use Rattle.notation.proofs.print.Printer.field.Goals as goal

pub decimal-requires : goal.decimal-requires
decimal-requires c = room_left c.byte.ensures 21 _ c.requires (omega (arith, digits_few c.args.n))

pub returns-clause-short : goal.returns-clause-short
returns-clause-short c = omega (arith, c.byte.ensures.printed.next, c.decimal.ensures.printed.next, digits_few c.args.n)
