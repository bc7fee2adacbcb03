-- `checks::path_room` meets its contract: the test is the fact that the check judges.
use Rattle.learning.proofs.Words.{ap, arith, sym, ◌∙◌}
use Rattle.std.specs.Prelude.{Err}
use Rattle.model.proofs.Accepted.{path_judges}
use Rattle.checks.proofs.path_room.Goals as goal

pub returns-then-path-cells : goal.returns-then-path-cells
returns-then-path-cells c f e = ap Err c.numbered.ensures ∙ sym ((path_judges f _).refused (omega arith))

pub returns : goal.returns
returns c f e = sym ((path_judges f _).done (omega arith))
