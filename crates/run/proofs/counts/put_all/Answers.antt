-- `run::counts::put_all` meets its contract: one record more at each turn, by `Counting.antt`.
use Rattle.learning.proofs.Words.{refl, sym, arith}
use Rattle.run.proofs.Counting.{written_none, write_more}
use Rattle.run.proofs.counts.put_all.Goals as goal

pub loop-i-init : goal.loop-i-init
loop-i-init c = (refl, sym (written_none _ c.args.reports.now))

pub loop-i-preserved : goal.loop-i-preserved
loop-i-preserved c =
    let put = c.put_counts.ensures in
    (omega arith, write_more _ c.args.reports.now _ c.loop-i.invariant.1 put refl (omega arith) (omega arith))
