-- `floor_text::writer::put_rows` meets its contract: the invariant: `Rowing`, the rows that are put and those that are left make the whole.
use Rattle.learning.proofs.Words.{◌≡◌}
use Rattle.std.specs.Slice.Iter.{chunks_exact_rest, chunks_exact_size}
use Rattle.floor_text.proofs.Writing.{Rowing}
use Rattle.floor_text.proofs.writer.put_rows.Given as goal

abbrev pub invariant-loop-cells : goal.invariant-loop-cells
invariant-loop-cells l = record {
  wide : chunks_exact_size l.cells-iterator ≡ l.floor.width;
  rows : Rowing l.fn.out l.floor.width l.floor.height l.floor.bytes l.out (chunks_exact_rest l.cells-iterator);
}
