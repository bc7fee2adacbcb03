-- `journey::tell_all`: the laws of the loop are `Course.antt`'s.
use Rattle.journey.proofs.Course.{Coursing}
use Rattle.journey.proofs.tell_all.Given as goal

abbrev pub invariant-loop-i : goal.invariant-loop-i
invariant-loop-i l = Coursing l.job l.floor l.start l.trials l.initial.table l.initial.path l.initial.out l.i l.table l.path l.out
