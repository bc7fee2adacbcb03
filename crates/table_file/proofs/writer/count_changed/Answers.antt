-- `table_file::writer::count_changed` meets its contract: the invariant: `Counting`, n of the cells passed differ.
use Rattle.std.proofs.Common.{arith, sym, ◌∙◌}
use Rattle.model.proofs.Cells.{cells-le}
use Rattle.table_file.proofs.Writing.{counting_same, counting_more, counting_all}
use Rattle.table_file.proofs.writer.count_changed.Goals as goal
use Rattle.table_file.proofs.writer.count_changed.Goals.{then-figure-opening, else-figure-opening}

pub loop-x-preserved : goal.loop-x-preserved
loop-x-preserved c =
    let inv = c.loop-x.invariant in
    elim c.if-figure-opening.branch [
      | then-figure-opening w ↦ rw w.n-is (counting_more inv (λ e. w.if-figure-opening.true (e ∙ sym c.opening.ensures.0)) (omega arith))
      | else-figure-opening w ↦ rw w.n-is (counting_same inv (w.if-figure-opening.false ∙ c.opening.ensures.0) (omega arith))
    ]

pub returns : goal.returns
returns c =
    let z = c.args.site.now.opened.sized in (counting_all c.loop-x.invariant (omega arith), omega (arith, cells-le _ _ z.narrow z.low))
