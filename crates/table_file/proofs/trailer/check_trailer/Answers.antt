-- `table_file::trailer::check_trailer` meets its contract: by its test.
use Rattle.learning.proofs.Words.{refl, sym, ◌∙◌}
use Rattle.model.specs.TableFile.{check_trailer}
use Rattle.table_file.proofs.trailer.check_trailer.Goals as goal

pub returns-then-not-trailer_holds : goal.returns-then-not-trailer_holds
unfolding check_trailer
returns-then-not-trailer_holds c =
    rw (sym c.trailer_holds.ensures ∙ c.if-not-trailer_holds.true, c.numbered.ensures) (record { is = refl; says = refl })

pub returns : goal.returns
unfolding check_trailer
returns c =
    rw (sym c.trailer_holds.ensures ∙ c.if-not-trailer_holds.false) (record { is = refl; says = refl })
