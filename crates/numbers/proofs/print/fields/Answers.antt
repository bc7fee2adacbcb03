-- `numbers::print::fields` meets its contract. The loop's invariant: the first entries are printed, each in at most 21 bytes.
use Rattle.std.proofs.Common.{arith}
use Rattle.notation.proofs.Prints.{prints_none, prints_then, same_length}
use Rattle.numbers.specs.Printing.{fields_of}
use Rattle.numbers.proofs.Fields.{fields-take_more}
use Rattle.numbers.proofs.print.fields.Goals as goal

pub loop-entry-init : goal.loop-entry-init
unfolding fields_of
loop-entry-init g c = record { printed = prints_none c.args.out.now; short = omega arith }

pub field-requires : goal.field-requires
field-requires g c = omega (arith, same_length c.loop-entry.invariant.printed)

pub loop-entry-preserved : goal.loop-entry-preserved
loop-entry-preserved g c = record {
  printed = rw (fields-take_more _ _ _ c.entry-item.result c.loop-entry-test.true c.entry-item.is, ← c.number.ensures) (prints_then c.loop-entry.invariant.printed c.field.ensures.printed);
  short = omega arith;
}
