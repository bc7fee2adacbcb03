-- `picture::refuse` is safe: the line of a refusal is not longer than its room.
use Rattle.std.proofs.Common.{arith}
use Rattle.learning.proofs.Words.{length-take-le}
use Rattle.line.proofs.Decimals.{refusal_few}
use Rattle.picture.proofs.refuse.Goals as goal

pub slice_bounds-line-end : goal.slice_bounds-line-end
slice_bounds-line-end c = grind (arith, refusal_few)

pub slice_bounds-words-end : goal.slice_bounds-words-end
slice_bounds-words-end c = grind (arith, refusal_few, length-take-le)
