-- `decision::back::back_to` meets its contract: by the test on the last ring, lost or back.
use Rattle.decision.proofs.Acting.{acts_lost, acts_returns}
use Rattle.decision.proofs.back.back_to.Goals as goal

pub returns-then-not-on_last-clause-acts : goal.returns-then-not-on_last-clause-acts
returns-then-not-on_last-clause-acts c = λ path e. search acts_lost

pub returns-clause-acts : goal.returns-clause-acts
returns-clause-acts c =
    let p = c.requires in
    λ path e. acts_returns _ _ p.risen.1 (search) e p.path c.on_last.ensures c.if-not-on_last.false (search)
