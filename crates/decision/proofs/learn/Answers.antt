-- `decision::learn` meets its contract: one law of the model for each way by the ceiling and the quota, with what the called function promises.
use Rattle.learning.proofs.Words.{arith}
use Rattle.decision.proofs.Acting.{current_in, table-short, learns_over, learns-forward, learns-back}
use Rattle.decision.proofs.learn.Goals as goal

pub offset_bounds-table-s : goal.offset_bounds-table-s
offset_bounds-table-s c =
    let r = c.requires.ready in omega (arith, current_in r, table-short r)

pub bounds-table-s : goal.bounds-table-s
bounds-table-s c =
    search current_in

pub returns-then-too_high-clause-acts : goal.returns-then-too_high-clause-acts
returns-then-too_high-clause-acts c =
    search learns_over

pub returns-then-state-rise-clause-acts : goal.returns-then-state-rise-clause-acts
returns-then-state-rise-clause-acts c =
    search learns-forward

pub returns-clause-acts : goal.returns-clause-acts
returns-clause-acts c =
    search learns-back
