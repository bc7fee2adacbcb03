-- `opening::trials_hold` meets its contract: the tests are the fact that the check judges.
use Rattle.learning.proofs.Words.{ap, arith, sym, ◌∙◌}
use Rattle.std.specs.Prelude.{Err}
use Rattle.model.proofs.Accepted.{trials_judges}
use Rattle.opening.proofs.trials_hold.Goals as goal

pub returns-then-trials-lt1 : goal.returns-then-trials-lt1
returns-then-trials-lt1 c = ap Err c.numbered.ensures ∙ sym ((trials_judges _).refused (omega arith))

pub returns : goal.returns
returns c = sym ((trials_judges _).done (omega arith))
