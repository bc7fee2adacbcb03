-- `lookahead::rings::reach` meets its contract: a cell with no mark leaves room in the list.
use Rattle.learning.proofs.Words.{arith, rules, length-set}
use Rattle.lookahead.proofs.Blanks.{blanks-pos}
use Rattle.lookahead.proofs.rings.reach.Goals as goal

pub bounds-list-n-2 : goal.bounds-list-n-2
bounds-list-n-2 c =
    let a = c.args in
    let left = blanks-pos a.base a.mark.now a.d (search rules) (search rules) in
    omega (arith, length-set a.list.now a.n a.d)
