-- `opening::reports_room` meets its contract: the test is the fact that the check judges.
use Rattle.learning.proofs.Words.{ap, arith, sym, ◌∙◌}
use Rattle.std.specs.Prelude.{Err}
use Rattle.model.proofs.Accepted.{reports_judges}
use Rattle.opening.proofs.reports_room.Goals as goal

pub returns-then-records-trials : goal.returns-then-records-trials
returns-then-records-trials c = ap Err c.numbered.ensures ∙ sym ((reports_judges _ _).refused (omega arith))

pub returns : goal.returns
returns c = sym ((reports_judges _ _).done (omega arith))
