-- `table_file::writer::judge_unlike` meets its contract: the invariant: no cell passed is unlike.
use Rattle.std.proofs.Common.{sym, ◌∙◌, arith}
use Rattle.model.proofs.Accepted.{naming-names, naming-done}
use Rattle.table_file.proofs.writer.judge_unlike.Goals as goal

pub returns-then-is_unlike : goal.returns-then-is_unlike
returns-then-is_unlike c =
    sym (naming-names _ _ 16 _ (omega arith) c.loop-x.invariant (sym c.is_unlike.ensures ∙ c.if-is_unlike.true))

pub returns : goal.returns
returns c =
    sym (naming-done _ _ 16 (λ k h. c.loop-x.invariant k (omega arith)))
