-- `checks::goals_hold` meets its contract. The invariant: the goals passed rise.
use Rattle.learning.proofs.Words.{suc, ◌-◌, ◌≡◌, ap, arith, get_or, sym, ◌∙◌}
use Rattle.std.specs.Prelude.{Err}
use Rattle.model.specs.Floor.{goals_of}
use Rattle.model.proofs.Benches.{goals_many, goals_judges}
use Rattle.checks.proofs.goals_hold.Goals as goal

pub returns-then-goals-lt1 : goal.returns-then-goals-lt1
returns-then-goals-lt1 c = ap Err c.numbered.ensures ∙ sym ((goals_judges _).refused (λ h. omega (arith, h.one, h.few)))

pub goal_at-requires : goal.goal_at-requires
goal_at-requires c = omega (arith, goals_many c.args.goals)

pub goal_at-requires-in-loop-i : goal.goal_at-requires-in-loop-i
goal_at-requires-in-loop-i c = omega (arith, goals_many c.args.goals)

pub returns-then-goal_at : goal.returns-then-goal_at
returns-then-goal_at c =
    let i = c.loop-i.i in
    let up : suc (i - 1) ≡ i = omega arith in
    ap Err c.numbered-then-goal_at.ensures
    ∙ sym ((goals_judges _).refused (λ h. omega (arith, ap (λ k. get_or (goals_of c.args.goals) k 0) up, h.rise (i - 1) (omega (arith, goals_many c.args.goals)))))

pub returns : goal.returns
returns c = sym ((goals_judges _).done (record { one = omega arith; few = omega arith; rise = λ k h. c.loop-i.invariant k (omega (arith, goals_many c.args.goals)) }))
