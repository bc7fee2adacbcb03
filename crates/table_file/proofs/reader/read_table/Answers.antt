-- `table_file::reader::read_table` meets its contract: a refusal leaves the table; else the opening figures are filled in, then the records put.
use Rattle.std.proofs.Common.{rules, ◌∙◌}
use Rattle.std.proofs.lemmas.Result.{err_from_is_err_and}
use Rattle.model.specs.TableFile.{read_verdict}
use Rattle.model.proofs.Accepted.{then_next, then_refused}
use Rattle.model.proofs.Files.{openable}
use Rattle.table_file.proofs.Reading.{read-refused, read-done}
use Rattle.table_file.proofs.reader.read_table.Goals as goal

pub returns-in_err-site : goal.returns-in_err-site
unfolding read_verdict
returns-in_err-site c =
    let p = err_from_is_err_and c.from_residual.result c.from_residual.ensures.1 in
    rw (p.1, p.2) (read-refused _ _ _ _ _ (then_refused _ c.in_err-site.ensures))

pub returns-in_err-records : goal.returns-in_err-records
unfolding read_verdict
returns-in_err-records c =
    let p = err_from_is_err_and c.from_residual-in_err-records.result c.from_residual-in_err-records.ensures.1 in
    let z = c.in_ok-site.ensures in
    rw (p.1, p.2) (read-refused _ _ _ _ _ (then_next _ z.3 ∙ rw (z.0, z.1, z.2) at c.in_err-records.ensures))

pub fill_figures-requires : goal.fill_figures-requires
fill_figures-requires c = let o = openable _ _ _ _ c.in_ok-site.ensures.3 in search rules

pub returns : goal.returns
unfolding read_verdict
returns c =
    let z = c.in_ok-site.ensures in
    let e = c.fill_figures.ensures c.args.floor.now in
    let r = rw (z.0, z.1, z.2) at c.in_ok-records.ensures in
    read-done _ _ _ _ _ (then_next _ z.3 ∙ r.1) r.0 (rw e at c.apply_records.ensures)
