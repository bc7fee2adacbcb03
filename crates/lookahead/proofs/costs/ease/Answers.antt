-- `lookahead::costs::ease` meets its contract: what `lower` does, at the cell that the move leads to.
use Rattle.lookahead.proofs.Grow.{moved}
use Rattle.lookahead.proofs.Lowering.{eased}
use Rattle.lookahead.proofs.costs.ease.Goals as goal

pub returns : goal.returns
returns c =
    let p = c.requires in
    let M = moved p.costs.sized c.in-Some.ensures in
    eased p.costs p.own M p.cell.marked c.if-mark-cell.false c.in-Some.ensures.is c.lower.ensures
