-- `table_file::trailer::second_holds` meets its contract: by its tests, the second where the first holds.
use Rattle.learning.proofs.Words.{sym, ◌∙◌}
use Rattle.model.specs.TableFile.{second_holds}
use Rattle.model.proofs.Files.{holds_tells}
use Rattle.table_file.proofs.trailer.second_holds.Goals as goal

pub trailer_of-requires : goal.trailer_of-requires
trailer_of-requires c =
    ((holds_tells _ 2 _).holds (sym c.holds_as.ensures ∙ c.if-holds_as.true)).room

pub returns-then-holds_as : goal.returns-then-holds_as
unfolding second_holds
returns-then-holds_as c =
    rw (sym c.holds_as.ensures ∙ c.if-holds_as.true, c.trailer_of.ensures.0)

pub returns-else-holds_as : goal.returns-else-holds_as
unfolding second_holds
returns-else-holds_as c =
    rw (c.if-holds_as.false, sym c.holds_as.ensures ∙ c.if-holds_as.false)
