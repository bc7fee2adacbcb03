-- `floor_text::writer::judge_text` meets its contract: one check after another, and the first refusal stands.
use Rattle.learning.proofs.Words.{sym, ◌∙◌, ap, length, arith}
use Rattle.std.specs.Prelude.{Err}
use Rattle.std.proofs.lemmas.Result.{err_from_is_err_and}
use Rattle.model.specs.FloorWritten.{text_of, text_verdict}
use Rattle.model.proofs.Accepted.{then_refused, then_next}
use Rattle.model.proofs.Writings.{room_judges}
use Rattle.floor_text.proofs.writer.judge_text.Goals as goal

pub returns-in_err-floor : goal.returns-in_err-floor
unfolding text_verdict
returns-in_err-floor c =
    let p = err_from_is_err_and c.from_residual.result c.from_residual.ensures.1 in
    rw (p.1, p.2) (then_refused _ c.in_err-floor.ensures)

pub returns-then-room-text_bytes : goal.returns-then-room-text_bytes
unfolding text_verdict
returns-then-room-text_bytes c =
    let e = c.in_ok-floor.ensures in
    then_next _ e.1 ∙ (room_judges _ _).refused (λ h. omega (arith, c.text_bytes.ensures, ap (λ f. length (text_of f)) e.0)) ∙ ap Err (sym c.numbered.ensures)

pub returns : goal.returns
unfolding text_verdict
returns c =
    let e = c.in_ok-floor.ensures in
    (e.0, then_next _ e.1 ∙ (room_judges _ _).done (omega (arith, c.text_bytes.ensures, ap (λ f. length (text_of f)) e.0)))
