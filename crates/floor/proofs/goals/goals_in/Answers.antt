-- `floor::goals::goals_in` meets its contract: of more than four named, the first four.
use Rattle.learning.proofs.Words.{arith}
use Rattle.model.proofs.Benches.{goals_many}
use Rattle.floor.proofs.goals.goals_in.Goals as goal

pub returns : goal.returns
returns c =
    omega (arith, goals_many c.args.goals)
