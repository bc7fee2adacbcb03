-- `renew::take_in` meets its contract: the list holds the last bytes of all the parts that were read, and each further part is put behind them.
use Rattle.renew.specs.Kept.{Taken}
use Rattle.renew.proofs.take_in.Given as goal

abbrev pub invariant-loop : goal.invariant-loop
invariant-loop l = Taken l.kept l.held
