-- `stream::refuse` meets its contract: the line of a refusal is not longer than its room.
use Rattle.learning.proofs.Words.{arith, length-take-le}
use Rattle.line.proofs.Decimals.{refusal_few}
use Rattle.stream.proofs.refuse.Goals as goal

pub slice_bounds-line-end : goal.slice_bounds-line-end
slice_bounds-line-end c = grind (arith, refusal_few)

pub slice_bounds-say-end : goal.slice_bounds-say-end
slice_bounds-say-end c = grind (arith, refusal_few, length-take-le)
