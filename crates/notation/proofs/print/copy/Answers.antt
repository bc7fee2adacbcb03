-- `notation::print::copy` meets its contract: the invariant: the first bytes are copied, and the rest of the part is as it was.
use Rattle.std.proofs.Common.{arith}
use Rattle.notation.proofs.Decimals.{copied_more, copied_all}
use Rattle.notation.proofs.print.copy.Goals as goal

pub loop-i-preserved : goal.loop-i-preserved
loop-i-preserved c = copied_more c.args.s.now c.args.part.now c.loop-i.i c.loop-i.invariant (omega arith) c.requires

pub returns : goal.returns
returns c = copied_all c.args.s.now c.args.part.now _ c.loop-i.invariant (omega arith) c.requires
