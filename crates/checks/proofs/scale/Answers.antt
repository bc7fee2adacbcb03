-- `checks::scale` meets its contract: the tests are the fact that the check judges.
use Rattle.learning.proofs.Words.{ap, arith, sym, ◌∙◌}
use Rattle.std.specs.Prelude.{Err}
use Rattle.model.proofs.Accepted.{scale_judges}
use Rattle.checks.proofs.scale.Goals as goal

pub returns-then-q-lt1 : goal.returns-then-q-lt1
returns-then-q-lt1 c = ap Err c.numbered.ensures ∙ sym ((scale_judges _).refused (omega arith))

pub returns : goal.returns
returns c = sym ((scale_judges _).done (omega arith))
