-- `run::run` meets its contract. The invariant is `Running`: from here the run comes to what the model's comes to.
use Rattle.learning.proofs.Words.{refl, sym, arith, rules}
use Rattle.run.proofs.Course.{refused, begins, settles, turns, ends}
use Rattle.run.proofs.run.Goals as goal

pub returns-in_err-open_run : goal.returns-in_err-open_run
returns-in_err-open_run c = search (rules, refused)

pub loop-i-init : goal.loop-i-init
loop-i-init c = begins _ _ _ _ _ _ _ (sym (c.in_ok-open_run.ensures c.args.path.now refl))

pub returns-then-report-eq0 : goal.returns-then-report-eq0
returns-then-report-eq0 c = rw c.store_report.ensures (settles _ _ _ c.loop-i.invariant c.loop-i-test.true c.ride-report.ensures c.if-report-eq0.true)

pub loop-i-preserved : goal.loop-i-preserved
loop-i-preserved c = rw c.store_report.ensures (turns _ _ _ c.loop-i.invariant c.loop-i-test.true c.ride-report.ensures c.if-report-eq0.false)

pub returns : goal.returns
returns c = ends _ _ _ c.loop-i.invariant (omega arith)
