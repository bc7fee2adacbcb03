-- `notation::print::copy` meets its contract: the invariant: the first bytes are copied, and the rest of the part is as it was.
use Rattle.std.proofs.Common.{◌≡◌, ◌++◌, take, drop}
use Rattle.notation.proofs.print.copy.Given as goal

abbrev pub invariant-loop-i : goal.invariant-loop-i
invariant-loop-i l = l.part ≡ take l.i l.s ++ drop l.i l.initial.part
