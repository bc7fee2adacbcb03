-- `opening::search::find_distances` meets its contract: where every place is at the queue's end, the search has found the true distances.
use Rattle.learning.proofs.Words.{◌∙◌}
use Rattle.opening.proofs.Held.{certified_distances}
use Rattle.opening.proofs.search.find_distances.Goals as goal

pub explore-requires-clause-benched : goal.explore-requires-clause-benched
explore-requires-clause-benched c = c.requires.benched

pub returns : goal.returns
returns c = certified_distances c.explore.new.list c.explore.ensures.sized (c.explore.auto.list ∙ c.fill.auto.self ∙ c.requires.long) c.explore.ensures.certified c.unpack.ensures
