-- `run::ride` meets its contract: the loop's laws are `Driving.antt`'s, of the model's own ride.
-- The measure is the ride's potential.
use Rattle.run.proofs.Driving.{sets_out, may_tally, rode_so, may_go_on, goes_on, nearer}
use Rattle.floor.proofs.Steps.{not_so, is_so}
use Rattle.run.proofs.ride.Goals as goal

pub loop-job-init : goal.loop-job-init
loop-job-init c = rw c.set_out-stand.ensures (sets_out c.requires c.new-lists.ensures)

pub onward-stand-requires-clause-ready : goal.onward-stand-requires-clause-ready
onward-stand-requires-clause-ready c = search (may_go_on c.requires, not_so)

pub loop-job-smaller : goal.loop-job-smaller
loop-job-smaller c = nearer c.requires c.loop-job.invariant (search not_so) c.onward-stand.ensures.went

pub loop-job-preserved : goal.loop-job-preserved
loop-job-preserved c = goes_on c.requires c.loop-job.invariant (search not_so) c.onward-stand.ensures.went c.onward-stand.ensures.left

pub tally-requires : goal.tally-requires
tally-requires c = may_tally c.requires c.loop-job.invariant

pub returns : goal.returns
returns c = rw c.tally.ensures (rode_so c.requires c.loop-job.invariant (search is_so))
