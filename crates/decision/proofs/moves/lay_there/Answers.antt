-- `decision::moves::lay_there` meets its contract: the route stands at the front of the part that is lent on.
use Rattle.decision.proofs.Laying.{lays}
use Rattle.decision.proofs.moves.lay_there.Goals as goal

pub returns : goal.returns
returns c =
    search lays
