-- `table_file::trailer::trailer_holds` meets its contract: by either edition.
use Rattle.learning.proofs.Words.{sym, ◌∙◌}
use Rattle.model.specs.TableFile.{trailer_holds}
use Rattle.table_file.proofs.trailer.trailer_holds.Goals as goal

pub returns-then-holds_as : goal.returns-then-holds_as
unfolding trailer_holds
returns-then-holds_as c =
    rw (c.if-holds_as.true, sym c.holds_as.ensures ∙ c.if-holds_as.true)

pub returns-else-holds_as : goal.returns-else-holds_as
unfolding trailer_holds
returns-else-holds_as c =
    rw (sym c.holds_as.ensures ∙ c.if-holds_as.false) c.second_holds.ensures
