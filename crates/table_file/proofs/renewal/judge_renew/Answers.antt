-- `table_file::renewal::judge_renew` meets its contract: the trailer's check, then the room.
use Rattle.std.proofs.Common.{sym, ◌∙◌, ap, arith}
use Rattle.std.specs.Prelude.{Err}
use Rattle.std.proofs.lemmas.Result.{err_from_is_err_and}
use Rattle.model.specs.Renewal.{renew_verdict}
use Rattle.model.proofs.Accepted.{then_next, then_refused}
use Rattle.model.proofs.Writings.{room_judges}
use Rattle.table_file.proofs.Reading.{ending-room, checked}
use Rattle.table_file.proofs.Renewing.{renewed-bytes}
use Rattle.table_file.proofs.renewal.judge_renew.Goals as goal

pub returns-in_err-check_trailer : goal.returns-in_err-check_trailer
unfolding renew_verdict
returns-in_err-check_trailer c =
    let p = err_from_is_err_and c.from_residual.result c.from_residual.ensures.1 in
    rw (p.1, p.2) (sym (then_refused _ (sym c.in_err-check_trailer.ensures.is)))

pub count_in-requires : goal.count_in-requires
count_in-requires c = ending-room _ (checked _ (sym c.in_ok-check_trailer.ensures.is))

pub returns-then-room-count_in : goal.returns-then-room-count_in
unfolding renew_verdict
returns-then-room-count_in c =
    let e = sym c.in_ok-check_trailer.ensures.is in
    let long = renewed-bytes _ (checked _ e) in
    ap Err c.numbered.ensures ∙ sym (then_next _ e ∙ (room_judges _ _).refused (λ w. omega arith))

pub returns : goal.returns
unfolding renew_verdict
returns c =
    let e = sym c.in_ok-check_trailer.ensures.is in
    let long = renewed-bytes _ (checked _ e) in
    sym (then_next _ e ∙ (room_judges _ _).done (omega arith))
