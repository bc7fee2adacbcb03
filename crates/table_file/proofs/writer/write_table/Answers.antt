-- `table_file::writer::write_table` meets its contract: a refusal leaves the buffer; else the records and the trailer are the whole file.
use Rattle.std.proofs.Common.{◌≡◌, ◌*◌, ◌/◌, ◌≤◌, refl, sym, ◌∙◌, ap, length, arith, rules}
use Rattle.std.proofs.lemmas.Result.{err_from_is_err_and}
use Rattle.model.specs.Floor.{size, goals_of}
use Rattle.model.specs.TableFile.{second_long, file_of, write_verdict, write_table}
use Rattle.model.proofs.Accepted.{then_next, then_refused}
use Rattle.model.proofs.Cells.{cells-le}
use Rattle.model.proofs.Files.{changed_few, length-records, length-file}
use Rattle.model.proofs.Writings.{writes_refused, writes_done}
use Rattle.floor.specs.Moves.{flat}
use Rattle.notation.proofs.Prints.{prints_whole, room_left}
use Rattle.table_file.specs.Site.{goals_at, changed_at}
use Rattle.table_file.proofs.Reading.{opened}
use Rattle.table_file.proofs.Writing.{table-fits, file_printed}
use Rattle.table_file.proofs.writer.write_table.Goals as goal
use Rattle.table_file.proofs.writer.write_table.Goals.{In_ok-judge_table, After-put_records}

-- the whole file finds room
fits : (c : In_ok-judge_table) → let s = c.in_ok-site.site in length (file_of s.floor s.q (goals_at s) c.args.table.now) ≤ length c.args.buffer.now
fits c = table-fits _ _ _ _ _ (sym c.in_ok-judge_table.ensures)

-- as many records are put as cells differ, which are 4,096 at most
counted : (c : After-put_records) → let n = length (changed_at c.in_ok-site.site c.args.table.now) in (c.put_records.new.out.at ≡ 6 * n) × (n ≤ 4096)
counted c =
    let s = c.in_ok-site.site in (
      omega (arith, c.put_records.ensures.printed.next, length-records c.args.table.now (changed_at s c.args.table.now)),
      omega (arith, changed_few s.floor s.q (goals_at s) c.args.table.now (size s.floor) 0, cells-le s.floor.width s.floor.height s.opened.sized.narrow s.opened.sized.low),
    )

pub returns-in_err-site : goal.returns-in_err-site
unfolding write_table write_verdict
returns-in_err-site c =
    let p = err_from_is_err_and c.from_residual.result c.from_residual.ensures.1 in
    rw (p.1, p.2) (writes_refused _ _ refl _ (then_refused _ c.in_err-site.ensures))

pub judge_table-requires : goal.judge_table-requires
judge_table-requires c = let z = c.in_ok-site.ensures in (opened _ _ _ _ z.3).1 ∙ sym (ap size z.0)

pub returns-in_err-judge_table : goal.returns-in_err-judge_table
unfolding write_table write_verdict
returns-in_err-judge_table c =
    let p = err_from_is_err_and c.from_residual-in_err-judge_table.result c.from_residual-in_err-judge_table.ensures.1 in
    let z = c.in_ok-site.ensures in
    rw (p.1, p.2) (writes_refused _ _ refl _ (then_next _ z.3 ∙ rw (z.0, z.1, z.2) at (sym c.in_err-judge_table.ensures)))

pub put_records-requires-clause-long : goal.put_records-requires-clause-long
put_records-requires-clause-long c = let z = c.in_ok-site.ensures in (opened _ _ _ _ z.3).1 ∙ sym (ap size z.0)

pub put_records-requires-clause-room : goal.put_records-requires-clause-room
put_records-requires-clause-room c =
    let s = c.in_ok-site.site in
    omega (arith, fits (goal.at.put_records-requires-clause-room c).In_ok-judge_table, length-file s.floor s.q (goals_at s) c.args.table.now)

pub put_trailer-requires-clause-room : goal.put_trailer-requires-clause-room
put_trailer-requires-clause-room c =
    let s = c.in_ok-site.site in
    room_left c.put_records.ensures (length (file_of s.floor s.q (goals_at s) c.args.table.now)) second_long (omega (arith, fits (goal.at.put_trailer-requires-clause-room c).In_ok-judge_table))
    (omega (arith, length-records c.args.table.now (changed_at s c.args.table.now), length-file s.floor s.q (goals_at s) c.args.table.now))

pub put_trailer-requires-clause-fits : goal.put_trailer-requires-clause-fits
put_trailer-requires-clause-fits c = omega (arith, counted (goal.at.put_trailer-requires-clause-fits c).After-put_records)

pub returns : goal.returns
unfolding write_table write_verdict
returns c =
    let s = c.in_ok-site.site in
    let a = c.args in
    let g = goal.at.returns c in
    let z = c.in_ok-site.ensures in
    let n : c.put_records.new.out.at / 6 ≡ length (changed_at s a.table.now) = omega (arith, counted g.After-put_records) in
    let printed = file_printed s.floor s.q (goals_at s) a.table.now n c.put_records.ensures (rw c.named.ensures at c.put_trailer.ensures) in
    let room = fits g.In_ok-judge_table in
    let judged = sym c.in_ok-judge_table.ensures in
    let whole = prints_whole (file_of (flat a.width a.height a.floor.now) a.q (goals_of a.goals) a.table.now) (rw (z.0, z.1, z.2) at printed) refl refl (rw (z.0, z.1, z.2) at room) (search rules) in
    writes_done _ _ refl _ _ (then_next _ z.3 ∙ rw (z.0, z.1, z.2) at judged) whole.0 whole.1
