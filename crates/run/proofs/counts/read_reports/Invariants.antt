-- `run::counts::read_reports` meets its contract: one record more at each turn, by `Counting.antt`.
use Rattle.learning.proofs.Words.{◌≡◌, length, take}
use Rattle.run.specs.Numbers.{records}
use Rattle.run.proofs.counts.read_reports.Given as goal

abbrev pub invariant-loop-i : goal.invariant-loop-i
invariant-loop-i l = (length l.reports ≡ length l.initial.reports) × (take l.i l.reports ≡ records l.counts l.i)
