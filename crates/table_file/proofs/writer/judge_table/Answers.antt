-- `table_file::writer::judge_table` meets its contract: one check after another, and past all others the room decides.
use Rattle.std.proofs.Common.{◌≡◌, sym, ◌∙◌, ap, length, arith}
use Rattle.std.specs.Prelude.{Err}
use Rattle.model.specs.Floor.{size}
use Rattle.model.specs.TableFile.{file_of}
use Rattle.model.specs.Writing.{file_room}
use Rattle.model.proofs.Accepted.{then_next}
use Rattle.model.proofs.Files.{length-file, changed_few}
use Rattle.model.proofs.Writings.{room_judges}
use Rattle.table_file.specs.Site.{goals_at, table_verdict}
use Rattle.table_file.proofs.writer.judge_table.Goals as goal
use Rattle.table_file.proofs.writer.judge_table.Goals.{In_ok-judge_unlike}

by_room : (e : In_ok-judge_unlike) → let s = e.args.site.now in let t = e.args.table.now in
    table_verdict s t e.args.room ≡ file_room (length (file_of s.floor s.q (goals_at s) t)) e.args.room
by_room e = then_next _ (sym (e.in_ok-figures.ensures _ (sym e.requires))) ∙ then_next _ (sym e.in_ok-judge_unlike.ensures)

pub returns-then-table-room : goal.returns-then-table-room
returns-then-table-room c =
    let s = c.args.site.now in
    sym (by_room (goal.at.returns-then-table-room c).In_ok-judge_unlike ∙ (room_judges _ _).done (omega (arith, length-file s.floor s.q (goals_at s) c.args.table.now, changed_few s.floor s.q (goals_at s) c.args.table.now (size s.floor) 0)))

pub returns-then-room-count : goal.returns-then-room-count
returns-then-room-count c =
    let s = c.args.site.now in
    ap Err c.numbered.ensures ∙ sym (by_room (goal.at.returns-then-room-count c).In_ok-judge_unlike ∙ (room_judges _ _).refused (λ h. omega (arith, length-file s.floor s.q (goals_at s) c.args.table.now)))

pub returns : goal.returns
returns c =
    let s = c.args.site.now in
    sym (by_room (goal.at.returns c).In_ok-judge_unlike ∙ (room_judges _ _).done (omega (arith, length-file s.floor s.q (goals_at s) c.args.table.now)))
