-- `floor::goals::goal_at` meets its contract: the goals are the first of the job's places.
use Rattle.learning.proofs.Words.{sym, arith}
use Rattle.model.proofs.Benches.{goals_many, goal_at_lem}
use Rattle.floor.proofs.goals.goal_at.Goals as goal

pub returns-in-0 : goal.returns-in-0
returns-in-0 c =
    sym (goal_at_lem _ _ 0 (omega arith) c.requires)

pub returns-in-1 : goal.returns-in-1
returns-in-1 c =
    sym (goal_at_lem _ _ 1 (omega arith) c.requires)

pub returns-in-2 : goal.returns-in-2
returns-in-2 c =
    sym (goal_at_lem _ _ 2 (omega arith) c.requires)

pub returns-in_default : goal.returns-in_default
returns-in_default c =
    sym (goal_at_lem _ _ 3 (omega (arith, goals_many c.args.goals)) c.requires)
