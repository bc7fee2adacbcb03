-- `lookahead::rings::goal_marked` meets its contract. The invariant: no goal passed is marked.
use Rattle.learning.proofs.Words.{sym, arith, le-leb}
use Rattle.model.proofs.Lists.{any_at, any_none}
use Rattle.lookahead.proofs.rings.goal_marked.Goals as goal

pub returns-then-base-mark : goal.returns-then-base-mark
returns-then-base-mark c =
    sym (any_at _ _ c.loop-i.i (omega arith) (le-leb _ _ (rw c.goal_at.ensures at c.if-base-mark.true)))

pub returns : goal.returns
returns c =
    sym (any_none _ _ (λ k h. c.loop-i.invariant k (omega arith)))
