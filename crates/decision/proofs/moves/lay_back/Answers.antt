-- `decision::moves::lay_back` meets its contract: the route is traced apart, and stands turned round at the front of the part that is lent on.
use Rattle.decision.proofs.Laying.{lays_back}
use Rattle.decision.proofs.moves.lay_back.Goals as goal

pub returns : goal.returns
returns c =
    search lays_back
