-- `journey::tell`: the loop is that of a trial, and the moves told are those of the ride so far. The measure is the ride's potential.
use Rattle.run.proofs.Driving.{yet_to}
use Rattle.journey.proofs.Telling.{Telling}
use Rattle.journey.proofs.tell.Given as goal

abbrev pub invariant-loop-job : goal.invariant-loop-job
invariant-loop-job l = Telling l.job l.floor l.start l.initial.table l.initial.path l.initial.out l.stand l.table l.path l.lists l.moves l.moved l.out

abbrev pub decreases-loop-job : goal.decreases-loop-job
decreases-loop-job l = yet_to l.job l.floor l.stand.state l.table l.path
