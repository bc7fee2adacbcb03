-- `lookahead::rings::extend` meets its contract: what `reach` does, at the cell that the move leads to.
use Rattle.learning.proofs.Words.{arith}
use Rattle.lookahead.proofs.Grow.{moved, extended_to}
use Rattle.lookahead.proofs.rings.extend.Goals as goal

pub overflow_add-w : goal.overflow_add-w
overflow_add-w c =
    omega (arith, c.requires.room.cheap c.args.c (omega arith), c.in-Some.ensures.most)

pub returns : goal.returns
returns c =
    let p = c.requires in
    extended_to p.room p.leaving (moved p.room.sized c.in-Some.ensures) c.in-Some.ensures.is c.reach.ensures
