-- `decision::moves_room` meets its contract: the two tests are the fact that the check judges, without a sum that wraps.
use Rattle.learning.proofs.Words.{ap, sym, ◌∙◌, arith}
use Rattle.std.specs.Prelude.{Err}
use Rattle.model.proofs.Held.{moves_judges}
use Rattle.decision.proofs.moves_room.Goals as goal

pub returns-then-room-lt-LEAST_ROOM : goal.returns-then-room-lt-LEAST_ROOM
returns-then-room-lt-LEAST_ROOM c =
    ap Err c.numbered.ensures ∙ sym ((moves_judges _ _).refused (λ h. omega arith))

pub returns : goal.returns
returns c =
    sym ((moves_judges _ _).done (omega arith))
