-- `opening::search::reach` meets its contract, by what the step is, its cost, and whether the cell has a distance.
use Rattle.learning.proofs.Words.{sym, ap, ◌∙◌, arith}
use Rattle.floor.proofs.Steps.{wall≢to, same_to}
use Rattle.opening.specs.Chain.{dist_at, stays, enters}
use Rattle.opening.proofs.search.reach.Goals as goal
use Rattle.opening.proofs.search.reach.Goals.{then-step-cost-via-then-step-cost, then-step-cost-via-else-step-cost+then-dist_at-lt-NONE}

pub returns-in_default : goal.returns-in_default
returns-in_default c = stays (λ b t. absurd (wall≢to b _ (sym c.in_default.is ∙ t)))

pub dist_at-requires : goal.dist_at-requires
dist_at-requires c = (c.requires.inside _ _ c.in-Some.is).0

pub returns-then-step-cost : goal.returns-then-step-cost
returns-then-step-cost c =
    stays (λ b t.
    let e = same_to (sym c.in-Some.is ∙ t) in
    elim c.then-step-cost.branch [
      | then-step-cost-via-then-step-cost w ↦ absurd (omega (arith, e.1))
      | then-step-cost-via-else-step-cost+then-dist_at-lt-NONE w ↦ omega (arith, w.dist_at.ensures.0, ap (dist_at c.args.list.now) e.0)
    ])

pub enter-requires : goal.enter-requires
enter-requires c =
    let on = c.requires.inside _ _ c.in-Some.is in (c.requires.final, on.0, on.1, c.requires.small)

pub returns : goal.returns
returns c = rw c.enter.ensures (enters _ (rw c.if-step-cost.false at c.in-Some.is) (omega arith))
