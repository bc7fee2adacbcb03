-- `opening::search::explore` meets its contract: there are as many places as the floor's moves have costs.
use Rattle.learning.proofs.Words.{◌≡◌, ap, sym, ◌∙◌, arith}
use Rattle.model.specs.Floor.{Floor}
use Rattle.floor.specs.Moves.{kinds}
use Rattle.floor.proofs.Steps.{kinds-between, kinds_fewer}
use Rattle.opening.proofs.search.explore.Goals as goal
use Rattle.opening.proofs.search.explore.Goals.{After-kinds_on}

told : (c : After-kinds_on) → c.kinds_on.result ≡ kinds c.args.floor.now.bytes
told c = c.kinds_on.ensures ∙ ap (λ (f : Floor). kinds f.bytes) c.floor.view_is

pub spread-requires-clause-kinds : goal.spread-requires-clause-kinds
spread-requires-clause-kinds c =
    let kinds_are = told (goal.at.spread-requires-clause-kinds c).After-kinds_on in sym (kinds_fewer _ (omega arith))

pub spread-requires-else-kinds_on-lt-KINDS-clause-kinds : goal.spread-requires-else-kinds_on-lt-KINDS-clause-kinds
spread-requires-else-kinds_on-lt-KINDS-clause-kinds c =
    omega (arith, told (goal.at.spread-requires-else-kinds_on-lt-KINDS-clause-kinds c).After-kinds_on, (kinds-between c.args.floor.now.bytes).1)
