-- `decision::held::path_holds` meets its contract. The invariant: the cells passed are fair, and their places are noted.
use Rattle.learning.proofs.Words.{ℕ, ◌<◌, get_or}
use Rattle.model.proofs.Held.{Fair}
use Rattle.decision.specs.Ready.{Places}
use Rattle.decision.proofs.held.path_holds.Given as goal

abbrev pub invariant-loop-i : goal.invariant-loop-i
invariant-loop-i l = ((k : ℕ) → k < l.i → Fair l.job l.floor.bytes l.current (get_or l.path k 0)) × Places l.place l.path l.i
