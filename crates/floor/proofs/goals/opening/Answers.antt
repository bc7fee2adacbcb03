-- `floor::goals::opening` meets its contract. The invariant: the figure is that of the goals passed.
use Rattle.learning.proofs.Words.{sym, ◌∙◌, arith, ap, ap₂, min}
use Rattle.model.specs.Floor.{octile, goals_of}
use Rattle.floor.specs.Moves.{flat}
use Rattle.floor.proofs.Nearest.{nearest_first, nearest_more}
use Rattle.floor.proofs.goals.opening.Goals as goal

pub loop-i-init : goal.loop-i-init
loop-i-init c bytes =
    c.octile-least.ensures bytes ∙ rw c.goal_at.ensures (sym (nearest_first _ _ _ (goals_of c.args.goals) (omega arith)))

pub loop-i-preserved : goal.loop-i-preserved
loop-i-preserved c bytes =
    let a = c.args in
    c.min-least.ensures
    ∙ ap₂ min (c.loop-i.invariant bytes) (c.octile-figure.ensures bytes ∙ ap (λ x. octile (flat a.width a.height bytes) a.q x a.cell) c.goal_at-in-loop-i.ensures)
    ∙ sym (nearest_more _ _ _ _ _ c.loop-i.auto.i (omega arith))
