-- `table_file::writer::is_unlike` meets its contract: by whether the cell is free.
use Rattle.learning.proofs.Words.{sym, ◌∙◌}
use Rattle.model.specs.TableFile.{unlike}
use Rattle.table_file.proofs.writer.is_unlike.Goals as goal

pub returns-then-is_free : goal.returns-then-is_free
unfolding unlike
returns-then-is_free c =
    rw (sym c.is_free.ensures ∙ c.if-is_free.true, c.opening-least.ensures.0)

pub returns-else-is_free : goal.returns-else-is_free
unfolding unlike
returns-else-is_free c =
    rw (sym c.is_free.ensures ∙ c.if-is_free.false, c.opening-least.ensures.0)
