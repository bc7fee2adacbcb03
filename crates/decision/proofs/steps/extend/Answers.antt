-- `decision::steps::extend` meets its contract: the target is noted where the path is cut, and a target that is not noted is not on the path.
use Rattle.decision.proofs.Noting.{extended_cut, extended_on}
use Rattle.decision.proofs.steps.extend.Goals as goal

pub returns-then-noted : goal.returns-then-noted
returns-then-noted c =
    search extended_cut

pub returns : goal.returns
returns c =
    search extended_on
