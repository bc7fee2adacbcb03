-- `table_file::reader::apply_records` meets its contract: the invariant: the records left do what all of them do.
use Rattle.std.proofs.Common.{◌≡◌, ◌/◌, length}
use Rattle.model.specs.TableFile.{applied}
use Rattle.table_file.proofs.reader.apply_records.Given as goal

abbrev pub invariant-loop-left : goal.invariant-loop-left
invariant-loop-left l = applied (length l.left / 6) l.left l.table ≡ applied (length l.records / 6) l.records l.initial.table

abbrev pub decreases-loop-left : goal.decreases-loop-left
decreases-loop-left l = length l.left
