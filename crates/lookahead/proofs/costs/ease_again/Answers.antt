-- `lookahead::costs::ease_again` meets its contract: what `ease_cell` does, or nothing where no cost can be lowered.
use Rattle.learning.proofs.Words.{arith, rules}
use Rattle.model.proofs.Moves.{free_few}
use Rattle.lookahead.proofs.Lowering.{again_not, again_topped}
use Rattle.lookahead.proofs.costs.ease_again.Goals as goal

pub bounds-cost-c : goal.bounds-cost-c
bounds-cost-c c =
    let p = c.requires in
    omega (arith, free_few _ _ p.costs.sized (p.costs.free _ p.listed.2))

pub returns-then-list-i : goal.returns-then-list-i
returns-then-list-i c =
    search (rules, again_not)

pub returns-then-high-from : goal.returns-then-high-from
returns-then-high-from c =
    search (rules, again_topped, c.requires.topmost)
