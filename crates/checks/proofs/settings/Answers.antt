-- `checks::settings` meets its contract: each test is a part of the fact that the check judges.
use Rattle.learning.proofs.Words.{ap, arith, sym, ◌∙◌}
use Rattle.std.specs.Prelude.{Err}
use Rattle.model.proofs.Accepted.{settings_judges}
use Rattle.checks.proofs.settings.Goals as goal

pub returns-then-job-lt1 : goal.returns-then-job-lt1
returns-then-job-lt1 c = ap Err c.numbered.ensures ∙ sym ((settings_judges _).refused (omega arith))

pub returns-then-job-lt1-2 : goal.returns-then-job-lt1-2
returns-then-job-lt1-2 c = ap Err c.numbered-then-job-lt1-2.ensures ∙ sym ((settings_judges _).refused (omega arith))

pub returns-then-job-gt-LARGEST_QUOTA : goal.returns-then-job-gt-LARGEST_QUOTA
returns-then-job-gt-LARGEST_QUOTA c = ap Err c.numbered-then-job-gt-LARGEST_QUOTA.ensures ∙ sym ((settings_judges _).refused (omega arith))

pub returns : goal.returns
returns c = sym ((settings_judges _).done (omega arith))
