-- `lookahead::bests::weigh_all` meets its contract. The loop's invariant: the keys of the first i cells are entered.
use Rattle.learning.proofs.Words.{arith}
use Rattle.lookahead.specs.Marks.{In}
use Rattle.lookahead.proofs.Weighing.{in_ring, bests_more}
use Rattle.lookahead.proofs.bests.weigh_all.Goals as goal

pub loop-i-preserved : goal.loop-i-preserved
loop-i-preserved c =
    let a = c.args in
    let p = c.requires in
    let inside : In a.base a.mark.now c.from.result = rw c.from.ensures (p.listing.early c.loop-i.i (omega arith)) in
    rw c.weigh.ensures (bests_more c.from.ensures (in_ring a.base a.mark.now _ _ inside (p.scores.top c.from.result)) c.loop-i.invariant)
