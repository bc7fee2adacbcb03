-- `numbers::print::fields` meets its contract. The loop's invariant: the first entries are printed, each in at most 21 bytes.
use Rattle.std.proofs.Common.{◌+◌, ◌*◌, ◌≤◌, map, take}
use Rattle.notation.specs.Prints.{Prints}
use Rattle.numbers.specs.Printing.{fields_of}
use Rattle.numbers.proofs.print.fields.Given as goal

abbrev pub invariant-loop-entry : goal.invariant-loop-entry
invariant-loop-entry g l = record {
  printed : Prints l.fn.out (fields_of (map g.T.Entry.number (take l.entry-index l.list))) l.out;
  short : l.out.at ≤ l.fn.out.at + 21 * l.entry-index;
}
