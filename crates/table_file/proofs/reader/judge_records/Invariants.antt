-- `table_file::reader::judge_records` meets its contract: the invariant: the records left answer like all of them.
use Rattle.std.proofs.Common.{◌≡◌, ◌+◌, ◌/◌, length}
use Rattle.model.specs.TableFile.{judge_records}
use Rattle.table_file.specs.Site.{goals_at}
use Rattle.table_file.proofs.reader.judge_records.Given as goal

abbrev pub invariant-loop-i : goal.invariant-loop-i
invariant-loop-i l =
    record {
      count : length l.left / 6 + l.i ≡ length l.records / 6;
      answers : judge_records l.site.floor l.site.q (goals_at l.site) (length l.left / 6) l.i l.low l.left
          ≡ judge_records l.site.floor l.site.q (goals_at l.site) (length l.records / 6) 0 0 l.records;
    }
