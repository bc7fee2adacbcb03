-- `floor_text::writer::write_floor` meets its contract: a refusal leaves the buffer; else the header and the rows are the whole text.
use Rattle.std.proofs.Common.{◌+◌, ◌≤◌, ap, arith, length, refl, rules}
use Rattle.std.proofs.lemmas.Result.{err_from_is_err_and}
use Rattle.model.specs.FloorWritten.{rows_of}
use Rattle.notation.proofs.Prints.{room_left}
use Rattle.floor_text.specs.Heads.{head_of}
use Rattle.floor_text.proofs.Writing.{text-fits, write-refused, write_done}
use Rattle.floor_text.proofs.writer.write_floor.Goals as goal
use Rattle.floor_text.proofs.writer.write_floor.Goals.{In_ok-floor}

-- room for the header, and for the rows after it
passed : (c : In_ok-floor) → let a = c.args in
    length (head_of a.width a.height) + length (rows_of a.width a.height a.floor.now) ≤ length a.buffer.now
passed c = (text-fits _ _ c.in_ok-floor.ensures.1).1

pub returns-in_err-floor : goal.returns-in_err-floor
returns-in_err-floor c =
    let p = err_from_is_err_and c.from_residual.result c.from_residual.ensures.1 in
    rw (p.1, p.2) (write-refused _ _ _ c.in_err-floor.ensures)

pub put_header-requires : goal.put_header-requires
put_header-requires c = omega (arith, passed (goal.at.put_header-requires c).In_ok-floor)

pub put_rows-requires : goal.put_rows-requires
put_rows-requires c =
    let a = c.args in
    let rows = ap (λ f. length (rows_of f.width f.height f.bytes)) c.in_ok-floor.ensures.0 in
    room_left c.put_header.ensures (length (head_of a.width a.height) + length (rows_of a.width a.height a.floor.now)) _ (omega (arith, passed (goal.at.put_rows-requires c).In_ok-floor)) (omega arith)

pub returns : goal.returns
returns c =
    let e = c.in_ok-floor.ensures in
    write_done _ _ e.1 c.put_header.ensures (rw e.0 at c.put_rows.ensures) refl refl (search rules)
