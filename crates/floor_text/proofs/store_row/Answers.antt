-- `floor_text::store_row` meets its contract: the invariant: the first letters are stored, and the rest of the part is as it was.
use Rattle.std.proofs.Common.{arith}
use Rattle.floor_text.proofs.Laws.{stored_more}
use Rattle.floor_text.proofs.store_row.Goals as goal

pub loop-i-preserved : goal.loop-i-preserved
loop-i-preserved c = stored_more c.args.letters.now c.args.part.now c.loop-i.i c.loop-i.invariant c.byte_of.ensures (omega arith) c.requires
