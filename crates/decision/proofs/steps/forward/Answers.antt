-- `decision::steps::forward` meets its contract: the path and the figure are those of the model, by what each writer promises.
use Rattle.learning.proofs.Words.{rules}
use Rattle.decision.proofs.Acting.{aimed-near, near-place, opened, current_in, acts_forward}
use Rattle.decision.proofs.steps.forward.Goals as goal

pub extend-length-requires-clause-writable : goal.extend-length-requires-clause-writable
extend-length-requires-clause-writable c =
    search opened

pub extend-length-requires-clause-target : goal.extend-length-requires-clause-target
extend-length-requires-clause-target c =
    search (near-place, aimed-near)

pub store-requires : goal.store-requires
store-requires c =
    (search current_in, search rules)

pub returns-clause-acts : goal.returns-clause-acts
returns-clause-acts c = search acts_forward
