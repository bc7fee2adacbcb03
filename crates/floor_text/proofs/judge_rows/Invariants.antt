-- `floor_text::judge_rows` meets its contract: the invariant: `Rowed`, the rows left answer like all of them.
use Rattle.floor_text.proofs.Laws.{Rowed}
use Rattle.floor_text.proofs.judge_rows.Given as goal

abbrev pub invariant-loop-row : goal.invariant-loop-row
invariant-loop-row l = Rowed l.width l.height l.text l.left l.row
