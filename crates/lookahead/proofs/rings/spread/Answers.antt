-- `lookahead::rings::spread` meets its contract. The loop's invariant: the cells at the places from `from` to i are left.
use Rattle.learning.proofs.Words.{arith}
use Rattle.model.proofs.Moves.{free_few}
use Rattle.lookahead.proofs.Grow.{swept_open, swept_more}
use Rattle.lookahead.proofs.rings.spread.Goals as goal

pub bounds-cost-c : goal.bounds-cost-c
bounds-cost-c c =
    let p = c.requires in
    omega (arith, free_few _ _ p.room.sized (swept_open p.room p.segment c.loop-i.invariant (omega arith) (omega arith) c.from-c.ensures).free)

pub visit-end-requires-clause-unvisited : goal.visit-end-requires-clause-unvisited
visit-end-requires-clause-unvisited c =
    let p = c.requires in
    swept_open p.room p.segment c.loop-i.invariant (omega arith) (omega arith) c.from-c.ensures

pub loop-i-preserved : goal.loop-i-preserved
loop-i-preserved c =
    swept_more (omega arith) c.from-c.ensures c.loop-i.invariant c.visit-end.ensures
