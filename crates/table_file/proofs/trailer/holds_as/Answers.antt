-- `table_file::trailer::holds_as` meets its contract: each test is a field of `Trailer`.
use Rattle.learning.proofs.Words.{sym, ◌∙◌, length, arith, ne_eqb}
use Rattle.model.proofs.Accepted.{never, le_tells, refuted, same_told}
use Rattle.model.proofs.Files.{holds_tells}
use Rattle.table_file.proofs.trailer.holds_as.Goals as goal
use Rattle.table_file.proofs.trailer.holds_as.Goals.{then-file-long-via-then-file-long, then-file-long-via-else-file-long+then-not-is_letters, then-file-long-via-else-file-long+else-not-is_letters+then-edition_in-edition}

pub returns-then-file-long : goal.returns-then-file-long
returns-then-file-long c =
    refuted (holds_tells _ _ _) (λ t. elim c.then-file-long.branch [
      | then-file-long-via-then-file-long w ↦ omega (arith, t.room, w.if-file-long.true)
      | then-file-long-via-else-file-long+then-not-is_letters w ↦ never (rw (← w.ending_of.ensures.0) at t.letters) (sym w.is_letters.ensures ∙ w.if-not-is_letters.true)
      | then-file-long-via-else-file-long+else-not-is_letters+then-edition_in-edition w ↦ w.if-edition_in-edition.true (w.edition_in.ensures ∙ t.edition_is)
    ])

pub returns-then-back-long : goal.returns-then-back-long
returns-then-back-long c =
    same_told (le_tells c.back_in-back.result (length c.args.file.now)) (holds_tells _ _ _)
    (λ l. record {
      room = omega arith;
      letters = rw c.ending_of.ensures.0 at (sym c.is_letters.ensures ∙ c.if-not-is_letters.false);
      edition_is = omega arith;
      even = omega arith;
      within = omega arith;
    })
    (λ t. omega arith)

pub returns-else-back-long : goal.returns-else-back-long
returns-else-back-long c =
    ne_eqb _ _ c.if-back-long.false ∙ refuted (holds_tells _ _ _) (λ t. c.if-back-long.false (omega arith))
