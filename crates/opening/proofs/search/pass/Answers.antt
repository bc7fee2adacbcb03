-- `opening::search::pass` meets its contract, by whether the move can have the cost.
use Rattle.learning.proofs.Words.{rules}
use Rattle.opening.proofs.Chain.{enterable, passed_over}
use Rattle.floor.proofs.Steps.{not_so}
use Rattle.opening.proofs.search.pass.Goals as goal

pub returns-then-not-can_cost : goal.returns-then-not-can_cost
returns-then-not-can_cost c =
    search (rules, passed_over, not_so)

pub reach-requires : goal.reach-requires
reach-requires c =
    search (rules, enterable)
