-- `floor_text::judge_rows` meets its contract: the invariant: `Rowed`, the rows left answer like all of them.
use Rattle.learning.proofs.Words.{sym, ◌∙◌, arith}
use Rattle.floor_text.proofs.Laws.{rowed_more, rowed_fault, rowed_done, rowed_over}
use Rattle.model.proofs.FloorTexts.{row_gives}
use Rattle.floor_text.proofs.judge_rows.Goals as goal

pub returns-then-not-row_holds : goal.returns-then-not-row_holds
returns-then-not-row_holds c =
    search rowed_fault

pub slice_bounds-left-count : goal.slice_bounds-left-count
slice_bounds-left-count c =
    omega (arith, (row_gives _ _ (sym c.row_holds.ensures ∙ c.if-not-row_holds.false)).0)

pub slice_bounds-left-start : goal.slice_bounds-left-start
slice_bounds-left-start c =
    omega (arith, (row_gives _ _ (sym c.row_holds.ensures ∙ c.if-not-row_holds.false)).0)

pub loop-row-preserved : goal.loop-row-preserved
loop-row-preserved c =
    search rowed_more

pub returns-then-is_empty : goal.returns-then-is_empty
returns-then-is_empty c =
    rowed_done c.loop-row.invariant (omega arith) c.is_empty.ensures c.if-is_empty.true

pub returns : goal.returns
returns c =
    rowed_over c.loop-row.invariant (omega arith) c.is_empty.ensures c.if-is_empty.false
