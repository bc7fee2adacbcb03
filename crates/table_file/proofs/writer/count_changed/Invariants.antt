-- `table_file::writer::count_changed` meets its contract: the invariant: `Counting`, n of the cells passed differ.
use Rattle.model.specs.Floor.{size}
use Rattle.table_file.specs.Site.{goals_at}
use Rattle.table_file.proofs.Writing.{Counting}
use Rattle.table_file.proofs.writer.count_changed.Given as goal

abbrev pub invariant-loop-x : goal.invariant-loop-x
invariant-loop-x l = Counting l.site.floor l.site.q (goals_at l.site) l.table (size l.site.floor) l.n l.x
