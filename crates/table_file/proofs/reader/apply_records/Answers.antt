-- `table_file::reader::apply_records` meets its contract: the invariant: the records left do what all of them do.
use Rattle.std.proofs.Common.{sym, ◌∙◌, ap₂, ◌++◌, arith}
use Rattle.std.proofs.lemmas.List.{take-append-drop}
use Rattle.table_file.proofs.Reading.{applied_more, applied_all}
use Rattle.table_file.proofs.reader.apply_records.Goals as goal

pub loop-left-preserved : goal.loop-left-preserved
loop-left-preserved c =
    let s = c.split_at.ensures in
    let parts = sym (take-append-drop 6 _) ∙ ap₂ ◌++◌ (sym s.front) (sym s.back) in
    applied_more _ _ parts s.front_len _ c.put_figure.ensures c.half_at.ensures.0 c.word_at.ensures.0 c.loop-left.invariant

pub returns : goal.returns
returns c = applied_all _ _ (omega arith) c.loop-left.invariant
