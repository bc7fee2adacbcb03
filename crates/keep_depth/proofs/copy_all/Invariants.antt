-- `keep_depth::copy_all` meets its contract. The loop's invariant: `Reading`, what is held of all that was read, and the lists are as long as they were.
use Rattle.keep_depth.proofs.Parting.{Reading}
use Rattle.keep_depth.proofs.copy_all.Given as goal

abbrev pub invariant-loop : goal.invariant-loop
invariant-loop l = Reading l.kept l.held l.line l.counter
