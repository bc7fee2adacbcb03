-- `run::counts::read_reports` meets its contract: one record more at each turn, by `Counting.antt`.
use Rattle.learning.proofs.Words.{refl, sym, arith, length-set}
use Rattle.run.proofs.Counting.{records_none, read_more}
use Rattle.run.proofs.counts.read_reports.Goals as goal

pub loop-i-init : goal.loop-i-init
loop-i-init c = (refl, sym (records_none _))

pub loop-i-preserved : goal.loop-i-preserved
loop-i-preserved c =
    let g = c.loop-i.invariant in (simp length-set g.0, read_more _ _ _ _ (omega arith) g.1 c.report_at.ensures)
