-- `journey::tell_all` meets its contract: the laws of the loop are `Course.antt`'s.
use Rattle.learning.proofs.Words.{arith}
use Rattle.journey.proofs.Course.{none_yet, settled_told, one_told, all_told}
use Rattle.journey.proofs.tell_all.Goals as goal

pub loop-i-init : goal.loop-i-init
loop-i-init c = none_yet c.requires.opened c.requires.room

pub returns-then-report-eq0 : goal.returns-then-report-eq0
returns-then-report-eq0 c = settled_told c.loop-i.invariant c.loop-i-test.true c.tell-report.ensures c.if-report-eq0.true c.last_line.ensures

pub loop-i-preserved : goal.loop-i-preserved
loop-i-preserved c = one_told c.loop-i.invariant c.loop-i-test.true c.tell-report.ensures c.if-report-eq0.false

pub returns : goal.returns
returns c = all_told c.loop-i.invariant (omega arith) c.last_line-2.ensures
