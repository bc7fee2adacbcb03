-- `floor::goals::is_goal` meets its contract. The invariant: the cell is none of the goals passed.
use Rattle.learning.proofs.Words.{sym, ◌∙◌, arith}
use Rattle.model.proofs.Lists.{member_at, no_member}
use Rattle.floor.proofs.goals.is_goal.Goals as goal

pub returns-then-cell-goal_at : goal.returns-then-cell-goal_at
returns-then-cell-goal_at c =
    let g = c.before in sym (member_at _ _ g.loop-i.i (omega arith) (c.if-cell-goal_at.true ∙ g.goal_at.ensures))

pub returns : goal.returns
returns c =
    sym (no_member _ _ (λ k h. c.loop-i.invariant k (omega arith)))
