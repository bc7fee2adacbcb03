-- `decision::go` meets its contract: by the two cases of the lookahead, its window or an empty ring.
use Rattle.decision.proofs.Acting.{acts_as, act-full, acts_blind}
use Rattle.decision.proofs.go.Goals as goal

pub returns-in_default-clause-acts : goal.returns-in_default-clause-acts
returns-in_default-clause-acts c =
    acts_blind c.requires.asked c.in_default.ensures.1 c.refuse.ensures

pub returns-clause-acts : goal.returns-clause-acts
returns-clause-acts c =
    acts_as (act-full _ _ _ _ _ c.requires.asked c.in-Some.ensures) c.learn.ensures.acts
