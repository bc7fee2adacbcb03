-- `table_file::reader::judge_file` meets its contract: one check after another, and the first refusal stands.
use Rattle.std.proofs.Common.{◌≡◌, ◌/◌, true, sym, ◌∙◌, ap, length, arith}
use Rattle.std.specs.Prelude.{Err}
use Rattle.std.proofs.lemmas.Result.{err_from_is_err_and}
use Rattle.model.specs.TableFile.{trailer_holds, judge_table, judge_records, count_in, find_records}
use Rattle.model.proofs.Accepted.{then_next, then_refused}
use Rattle.model.proofs.Files.{ahead_judges}
use Rattle.table_file.specs.Site.{goals_at}
use Rattle.table_file.specs.Promises.{file_verdict}
use Rattle.table_file.proofs.Reading.{ending-room, checked, records_judged}
use Rattle.table_file.proofs.reader.judge_file.Goals as goal
use Rattle.table_file.proofs.reader.judge_file.Goals.{In_ok-check_trailer, Else-back_in-file, In_ok-same_job, After-find_records-records}

holds : (e : In_ok-check_trailer) → trailer_holds e.args.file.now ≡ true
holds e = checked e.args.file.now (sym e.in_ok-check_trailer.ensures.is)

-- past 13 and 28, and then past 14, what is left decides
ahead : (e : Else-back_in-file) → let z = e.args.site.now in let file = e.args.file.now in file_verdict z.floor z.q (goals_at z) file ≡ judge_table z.floor z.q (goals_at z) file
ahead e =
    then_next _ (sym e.in_ok-check_trailer.ensures.is) ∙ then_next _ ((ahead_judges e.args.file.now).done (omega (arith, e.back_in.ensures)))

named : (e : In_ok-same_job) → let z = e.args.site.now in let file = e.args.file.now in
    file_verdict z.floor z.q (goals_at z) file ≡ judge_records z.floor z.q (goals_at z) (count_in file) 0 0 (find_records file)
named e =
    then_next _ (sym e.in_ok-check_trailer.ensures.is) ∙ then_next _ ((ahead_judges e.args.file.now).done (omega (arith, e.back_in.ensures))) ∙ then_next _ (sym e.in_ok-same_job.ensures)

counted : (e : After-find_records-records) → let z = e.args.site.now in let file = e.args.file.now in let part = e.find_records-records.result.now in
    judge_records z.floor z.q (goals_at z) (length part / 6) 0 0 part ≡ judge_records z.floor z.q (goals_at z) (count_in file) 0 0 (find_records file)
counted e =
    let z = e.args.site.now in
    records_judged z.floor z.q (goals_at z) e.args.file.now (checked e.args.file.now (sym e.in_ok-check_trailer.ensures.is)) e.find_records-records.ensures.part

pub back_in-requires : goal.back_in-requires
back_in-requires c = ending-room _ (holds (goal.at.back_in-requires c).In_ok-check_trailer)

pub returns-then-back_in-file : goal.returns-then-back_in-file
returns-then-back_in-file c =
    then_next _ (sym c.in_ok-check_trailer.ensures.is) ∙ then_refused _ ((ahead_judges c.args.file.now).refused (λ h. omega (arith, c.back_in.ensures))) ∙ ap Err (sym c.numbered.ensures)

pub same_job-requires : goal.same_job-requires
same_job-requires c = holds (goal.at.same_job-requires c).In_ok-check_trailer

pub returns-in_err-same_job : goal.returns-in_err-same_job
returns-in_err-same_job c =
    let p = err_from_is_err_and c.from_residual-in_err-same_job.result c.from_residual-in_err-same_job.ensures.1 in
    rw (p.1, p.2) (ahead (goal.at.returns-in_err-same_job c).Else-back_in-file ∙ then_refused _ (sym c.in_err-same_job.ensures))

pub returns-in_err-judge_records : goal.returns-in_err-judge_records
returns-in_err-judge_records c =
    let g = goal.at.returns-in_err-judge_records c in
    let p = err_from_is_err_and c.from_residual-in_err-judge_records.result c.from_residual-in_err-judge_records.ensures.1 in
    rw (p.1, p.2) (named g.In_ok-same_job ∙ sym (counted g.After-find_records-records) ∙ sym c.in_err-judge_records.ensures)

pub returns : goal.returns
returns c =
    let g = goal.at.returns c in
    (c.find_records-records.ensures.part, named g.In_ok-same_job ∙ sym (counted g.After-find_records-records) ∙ sym c.in_ok-judge_records.ensures)
