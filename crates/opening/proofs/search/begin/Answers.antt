-- `opening::search::begin` meets its contract. The invariant is `Lining`: the first i goals have been entered.
use Rattle.learning.proofs.Words.{◌≡◌, ◌-◌, ap, ap₂, ◌∙◌, arith, get_or, length, set}
use Rattle.model.specs.Floor.{goals_of}
use Rattle.opening.proofs.Chain.{lining_more}
use Rattle.opening.specs.Chain.{lined}
use Rattle.opening.proofs.search.begin.Goals as goal

pub loop-i-preserved : goal.loop-i-preserved
loop-i-preserved c = lining_more c.loop-i.invariant (omega arith) c.goal_at-goal.ensures c.enter.ensures

pub returns : goal.returns
unfolding lined
returns c =
    let all : c.loop-i.i ≡ length (goals_of c.args.goals) = omega arith in (
      c.loop-i.invariant.list _ (ap₂ (set c.args.list.now) c.goal_at-last.ensures c.entry.ensures) ∙ ap (lined c.args.list.now (goals_of c.args.goals)) all,
      c.loop-i.invariant.final ∙ ap (λ k. get_or (goals_of c.args.goals) (k - 1) 0) all,
    )
