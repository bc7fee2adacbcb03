-- `opening::search::follow` meets its contract. The invariant: the first m moves have been followed. No move leads from a blocked cell.
use Rattle.learning.proofs.Words.{rules}
use Rattle.opening.proofs.Chain.{follows_blocked, follows_more, follows_all}
use Rattle.floor.proofs.Steps.{not_so}
use Rattle.opening.proofs.search.follow.Goals as goal

pub returns-then-not-is_free : goal.returns-then-not-is_free
returns-then-not-is_free g c = search (rules, follows_blocked, not_so)

pub loop-m-preserved : goal.loop-m-preserved
loop-m-preserved g c = search (rules, follows_more)

pub returns : goal.returns
returns g c = search (rules, follows_all)
