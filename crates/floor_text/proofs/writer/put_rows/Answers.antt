-- `floor_text::writer::put_rows` meets its contract: the invariant: `Rowing`, the rows that are put and those that are left make the whole.
use Rattle.std.proofs.Common.{◌∙◌, arith, subst}
use Rattle.model.specs.Floor.{Sized}
use Rattle.floor_text.proofs.Writing.{row_room, rowing_more, rowing_all}
use Rattle.floor_text.proofs.writer.put_rows.Goals as goal

pub put_row-requires : goal.put_row-requires
put_row-requires c =
    let s = c.in-Some.ensures.steps.1 in
    let z = subst Sized c.floor.view_is c.floor.invariant in
    row_room c.loop-cells.invariant.rows z.wide _ _ s.0 (s.1 ∙ c.loop-cells.invariant.wide)

pub loop-cells-preserved : goal.loop-cells-preserved
loop-cells-preserved c =
    let s = c.in-Some.ensures.steps in
    let z = subst Sized c.floor.view_is c.floor.invariant in
    record {
      wide = s.0 ∙ c.loop-cells.invariant.wide;
      rows = rowing_more c.loop-cells.invariant.rows z.wide _ _ s.1.0 (s.1.1 ∙ c.loop-cells.invariant.wide) c.put_row.ensures;
    }

pub returns : goal.returns
returns c =
    let z = subst Sized c.floor.view_is c.floor.invariant in
    rowing_all c.loop-cells.invariant.rows z.wide (omega (arith, c.in-None.ensures.steps.1.0))
