-- `checks::sizes` meets its contract: each test is a part of the fact that the check judges.
use Rattle.learning.proofs.Words.{ap, arith, refl, sym, ◌∙◌}
use Rattle.std.specs.Prelude.{Err}
use Rattle.model.proofs.Accepted.{sizes_judges}
use Rattle.checks.proofs.sizes.Goals as goal

pub returns-then-width-lt1 : goal.returns-then-width-lt1
returns-then-width-lt1 c = (sizes_judges _ _).refused (omega arith) ∙ ap Err (sym c.numbered.ensures)

pub returns-then-bytes-width : goal.returns-then-bytes-width
returns-then-bytes-width c = (sizes_judges _ _).refused (omega arith) ∙ ap Err (sym c.numbered-then-bytes-width.ensures)

pub returns : goal.returns
returns c = (refl, (sizes_judges _ _).done (omega arith))
