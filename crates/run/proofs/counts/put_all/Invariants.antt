-- `run::counts::put_all` meets its contract: one record more at each turn, by `Counting.antt`.
use Rattle.learning.proofs.Words.{◌*◌, ◌≡◌, ◌++◌, length, take, drop}
use Rattle.run.specs.Numbers.{numbers}
use Rattle.run.proofs.counts.put_all.Given as goal

abbrev pub invariant-loop-i : goal.invariant-loop-i
invariant-loop-i l = (length l.counts ≡ length l.initial.counts) × (l.counts ≡ numbers (take l.i l.reports) ++ drop (l.i * 4) l.initial.counts)
