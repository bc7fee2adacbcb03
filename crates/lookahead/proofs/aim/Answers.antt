-- `lookahead::aim` meets its contract: the keys that are entered and the greatest of them give the model's new figure and target.
use Rattle.learning.proofs.Words.{rules}
use Rattle.lookahead.proofs.Aiming.{scores, aimed}
use Rattle.lookahead.proofs.aim.Goals as goal

pub weigh_all-requires-clause-scores : goal.weigh_all-requires-clause-scores
weigh_all-requires-clause-scores c =
    search (rules, scores)

pub returns : goal.returns
returns c =
    search (rules, aimed)
