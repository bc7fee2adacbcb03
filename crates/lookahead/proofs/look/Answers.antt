-- `lookahead::look` meets its contract: the rings' marks and the relaxed costs are the model's window, or a ring is empty.
use Rattle.lookahead.proofs.Meaning.{looked, blocked}
use Rattle.lookahead.proofs.look.Goals as goal

pub returns-in_err-extent : goal.returns-in_err-extent
returns-in_err-extent c =
    let p = c.requires in
    rw c.from_residual.ensures (blocked p.asked c.in_err-extent.ensures.2 p.fresh.marks.room)

pub returns : goal.returns
returns c =
    let p = c.requires in
    looked p.asked c.in_ok-extent.ensures p.fresh.marks.room c.relax.ensures
