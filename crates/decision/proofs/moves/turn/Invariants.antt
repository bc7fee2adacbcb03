-- `decision::moves::turn` meets its contract. The invariant: the last k moves stand turned round at the front, and the rest of the part is as lent.
use Rattle.decision.proofs.Laying.{Turned}
use Rattle.decision.proofs.moves.turn.Given as goal

abbrev pub invariant-loop-k : goal.invariant-loop-k
invariant-loop-k l = Turned l.there l.initial.part l.n l.k l.part
