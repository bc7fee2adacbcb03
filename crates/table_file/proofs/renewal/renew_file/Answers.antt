-- `table_file::renewal::renew_file` meets its contract: a refusal leaves the buffer; else the records and edition 2's trailer are the renewed file.
use Rattle.std.proofs.Common.{◌≡◌, ◌+◌, ◌≤◌, true, refl, sym, ap, length, arith, rules}
use Rattle.std.proofs.lemmas.Result.{err_from_is_err_and}
use Rattle.model.specs.TableFile.{second_long, trailer_holds, find_records}
use Rattle.model.specs.Renewal.{renewed, renew_file}
use Rattle.model.proofs.Writings.{writes_refused, writes_done}
use Rattle.notation.specs.Prints.{Prints}
use Rattle.notation.proofs.Prints.{prints_then, prints_whole, room_left}
use Rattle.table_file.proofs.Renewing.{renew-gives}
use Rattle.table_file.proofs.renewal.renew_file.Goals as goal
use Rattle.table_file.proofs.renewal.renew_file.Goals.{In_ok-judge_renew}

passed : (c : In_ok-judge_renew) → let file = c.args.file.now in let room = length c.args.buffer.now in
    (trailer_holds file ≡ true) × (length (find_records file) + second_long ≤ room) × (length (renewed file) ≤ room)
passed c = renew-gives _ _ (sym c.in_ok-judge_renew.ensures)

pub returns-in_err-judge_renew : goal.returns-in_err-judge_renew
unfolding renew_file
returns-in_err-judge_renew c =
    let p = err_from_is_err_and c.from_residual.result c.from_residual.ensures.1 in
    rw (p.1, p.2) (writes_refused _ _ refl _ (sym c.in_err-judge_renew.ensures))

pub bytes-requires : goal.bytes-requires
bytes-requires c = omega (arith, passed (goal.at.bytes-requires c).In_ok-judge_renew, ap length c.find_records.ensures.part)

pub put_renewed-requires-clause-sound : goal.put_renewed-requires-clause-sound
put_renewed-requires-clause-sound c = (passed (goal.at.put_renewed-requires-clause-sound c).In_ok-judge_renew).0

pub put_renewed-requires-clause-room : goal.put_renewed-requires-clause-room
put_renewed-requires-clause-room c =
    let long = ap length c.find_records.ensures.part in
    room_left c.bytes.ensures (length c.find_records.result.now + second_long) _ (omega (arith, passed (goal.at.put_renewed-requires-clause-room c).In_ok-judge_renew)) (omega arith)

pub returns : goal.returns
unfolding renew_file renewed
returns c =
    let P : Prints _ (find_records c.args.file.now) c.bytes.new.self = rw c.find_records.ensures.part at c.bytes.ensures in
    let whole = prints_whole (renewed c.args.file.now) (prints_then P c.put_renewed.ensures) refl refl (passed (goal.at.returns c).In_ok-judge_renew).2 (search rules) in
    writes_done _ _ refl _ _ (sym c.in_ok-judge_renew.ensures) whole.0 whole.1
