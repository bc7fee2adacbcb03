-- `run::ride` meets its contract: the loop's laws are `Driving.antt`'s, of the model's own ride.
-- The measure is the ride's potential.
use Rattle.run.proofs.Driving.{Underway, yet_to}
use Rattle.run.proofs.ride.Given as goal

abbrev pub invariant-loop-job : goal.invariant-loop-job
invariant-loop-job l = Underway l.job l.floor l.start l.initial.table l.initial.path l.stand l.table l.path l.lists

abbrev pub decreases-loop-job : goal.decreases-loop-job
decreases-loop-job l = yet_to l.job l.floor l.stand.state l.table l.path
