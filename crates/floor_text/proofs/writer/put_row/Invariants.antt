-- `floor_text::writer::put_row` meets its contract: the invariant: `Lettering`, the first letters are put.
use Rattle.floor_text.proofs.Writing.{Lettering}
use Rattle.floor_text.proofs.writer.put_row.Given as goal

abbrev pub invariant-loop-cell : goal.invariant-loop-cell
invariant-loop-cell l = Lettering l.fn.out l.cells l.out l.cell-index
