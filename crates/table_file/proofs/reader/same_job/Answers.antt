-- `table_file::reader::same_job` meets its contract: by what the trailer names, and by its q.
use Rattle.std.proofs.Common.{sym, ◌∙◌, ap}
use Rattle.std.specs.Prelude.{Err}
use Rattle.model.proofs.Accepted.{never}
use Rattle.table_file.specs.Site.{goals_at}
use Rattle.table_file.proofs.Reading.{ending-room, same_judges}
use Rattle.table_file.proofs.reader.same_job.Goals as goal
use Rattle.table_file.proofs.reader.same_job.Goals.{then-not-names-via-then-not-names, then-not-names-via-else-not-names+then-from-site}

pub scale_in-requires : goal.scale_in-requires
scale_in-requires c = search ending-room

pub returns-then-not-names : goal.returns-then-not-names
returns-then-not-names c =
    let z = c.args.site.now in
    ap Err c.numbered.ensures ∙ sym ((same_judges z.floor z.q (goals_at z) c.args.file.now).refused (λ h. elim c.then-not-names.branch [
      | then-not-names-via-then-not-names w ↦ never h.0 (sym c.names.ensures ∙ w.if-not-names.true)
      | then-not-names-via-else-not-names+then-from-site w ↦ w.if-from-site.true (w.from.ensures ∙ w.scale_in.ensures ∙ h.1)
    ]))

pub returns : goal.returns
returns c =
    let z = c.args.site.now in
    sym ((same_judges z.floor z.q (goals_at z) c.args.file.now).done (sym c.names.ensures ∙ c.if-not-names.false, sym c.scale_in.ensures ∙ sym c.from.ensures ∙ c.if-from-site.false))
