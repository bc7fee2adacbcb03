-- `table_file::writer::judge_unlike` meets its contract: the invariant: no cell passed is unlike.
use Rattle.table_file.specs.Site.{goals_at}
use Rattle.model.specs.TableFile.{unlike}
use Rattle.model.proofs.Accepted.{NoneBelow}
use Rattle.table_file.proofs.writer.judge_unlike.Given as goal

abbrev pub invariant-loop-x : goal.invariant-loop-x
invariant-loop-x l = NoneBelow (unlike l.site.floor l.site.q (goals_at l.site) l.table) l.x
