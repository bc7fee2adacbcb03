-- `journey::tell` meets its contract: the loop is that of a trial, whose laws are `run`'s, and the moves told are those of the ride so far.
-- The measure is the ride's potential.
use Rattle.run.proofs.Driving.{may_tally, may_go_on, nearer}
use Rattle.floor.proofs.Steps.{not_so, is_so}
use Rattle.journey.proofs.Telling.{tells_none, may_say, tells, line_told}
use Rattle.journey.proofs.tell.Goals as goal

pub loop-job-init : goal.loop-job-init
loop-job-init c = rw c.set_out-stand.ensures (tells_none c.requires.opened c.new-lists.ensures (search) c.requires.room)

pub onward-stand-requires-clause-ready : goal.onward-stand-requires-clause-ready
onward-stand-requires-clause-ready c = may_go_on c.requires.opened c.loop-job.invariant.under (search not_so)

pub loop-job-smaller : goal.loop-job-smaller
loop-job-smaller c = nearer c.requires.opened c.loop-job.invariant.under (search not_so) c.onward-stand.ensures.went

pub say_moves-requires-clause-few : goal.say_moves-requires-clause-few
say_moves-requires-clause-few c = (may_say c.requires.opened c.loop-job.invariant (search not_so) c.onward-stand.ensures.went c.onward-stand.ensures.left c.lay-n.ensures).0

pub say_moves-requires-clause-digits : goal.say_moves-requires-clause-digits
say_moves-requires-clause-digits c = (may_say c.requires.opened c.loop-job.invariant (search not_so) c.onward-stand.ensures.went c.onward-stand.ensures.left c.lay-n.ensures).1

pub tally-report-requires : goal.tally-report-requires
tally-report-requires c = may_tally c.requires.opened c.loop-job.invariant.under

pub loop-job-preserved : goal.loop-job-preserved
loop-job-preserved c =
    tells c.requires.opened c.loop-job.invariant (search not_so) c.onward-stand.ensures.went c.onward-stand.ensures.left c.lay-n.ensures (search) c.say_moves.ensures

pub returns : goal.returns
returns c = line_told c.requires.opened c.loop-job.invariant (search is_so) c.tally-report.ensures c.say_counts.ensures
