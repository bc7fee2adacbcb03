-- `run::run` meets its contract. The invariant is `Running`: from here the run comes to what the model's comes to.
use Rattle.model.specs.Ride.{run}
use Rattle.run.proofs.Course.{Running}
use Rattle.run.proofs.run.Given as goal

abbrev pub invariant-loop-i : goal.invariant-loop-i
invariant-loop-i l =
    Running l.job l.floor l.start (run l.job l.floor l.start l.trials l.initial.table l.initial.path l.initial.reports) l.trials l.i l.table l.path l.reports
