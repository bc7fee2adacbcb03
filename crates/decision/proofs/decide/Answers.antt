-- `decision::decide` meets its contract: by cases of the verdict; a call that is done is ready, and a refused one leaves every list as lent.
use Rattle.learning.proofs.Words.{sym, ◌∙◌}
use Rattle.decision.proofs.Acting.{decides_refused, decides_past}
use Rattle.decision.proofs.Judging.{ready, roomy}
use Rattle.decision.proofs.decide.Goals as goal

pub decide_past-requires-clause-ready : goal.decide_past-requires-clause-ready
decide_past-requires-clause-ready c =
    ready _ _ _ _ _ _ _ (sym c.judge.ensures.verdict ∙ c.in-Ok.is)

pub decide_past-requires-clause-room : goal.decide_past-requires-clause-room
decide_past-requires-clause-room c =
    roomy _ _ _ _ _ _ _ (sym c.judge.ensures.verdict ∙ c.in-Ok.is)

pub returns-in-Err : goal.returns-in-Err
returns-in-Err c =
    search decides_refused

pub returns-in-Ok : goal.returns-in-Ok
returns-in-Ok c =
    decides_past _ _ _ _ _ _ _ c.judge.ensures c.in-Ok.is c.decide_past.ensures
