-- `table_file::writer::put_records` meets its contract: the invariant: `Putting`, the records that are put and those that are left make the whole.
use Rattle.model.specs.Floor.{size}
use Rattle.table_file.specs.Site.{goals_at}
use Rattle.table_file.proofs.Writing.{Putting}
use Rattle.table_file.proofs.writer.put_records.Given as goal

abbrev pub invariant-loop-x : goal.invariant-loop-x
invariant-loop-x l = Putting l.site.floor l.site.q (goals_at l.site) l.table l.fn.out l.out (size l.site.floor) l.x
