-- `decision::act` meets its contract: arrived, or what `go` promises with the marks renewed.
use Rattle.decision.proofs.Acting.{acts_arrived}
use Rattle.decision.proofs.act.Goals as goal

pub returns-then-is_goal-clause-acts : goal.returns-then-is_goal-clause-acts
returns-then-is_goal-clause-acts c =
    search acts_arrived
