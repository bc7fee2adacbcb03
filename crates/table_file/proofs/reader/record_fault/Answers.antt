-- `table_file::reader::record_fault` meets its contract: a record is `Faulty` by the test that it fails, and `Lawful` where it passes all.
use Rattle.std.proofs.Common.{◌≡◌, Bool, sym, ap, ◌∙◌, arith}
use Rattle.model.specs.Floor.{free, opening}
use Rattle.model.specs.TableFile.{cell_in}
use Rattle.model.proofs.Files.{no_fault, faulty_is, off_the_floor, blocked, not_above_before, not_above_opening, above-ceiling}
use Rattle.table_file.specs.Site.{goals_at}
use Rattle.table_file.proofs.reader.record_fault.Goals as goal
use Rattle.table_file.proofs.reader.record_fault.Goals.{After-is_free, After-opening}

-- whether the record's cell is free
open-cell : (e : After-is_free) {b : Bool} → e.is_free.result ≡ b → free e.args.site.now.floor (cell_in e.args.part.now) ≡ b
open-cell e h = ap (free _) (sym e.half_at-cell.ensures.0) ∙ sym e.is_free.ensures ∙ h

-- the opening figure that its figure is compared with
opens : (e : After-opening) → let s = e.args.site.now in opening s.floor s.q (goals_at s) (cell_in e.args.part.now) ≡ e.opening.result
opens e = ap (opening _ _ _) (sym e.half_at-cell.ensures.0) ∙ sym e.opening.ensures.0

pub returns-then-cells-cell : goal.returns-then-cells-cell
returns-then-cells-cell c =
    (faulty_is _ _ _ _ _ (off_the_floor (omega (arith, c.cells.ensures.count))), omega arith)

pub returns-then-not-is_free : goal.returns-then-not-is_free
returns-then-not-is_free c =
    (faulty_is _ _ _ _ _ (blocked (omega arith) (open-cell (goal.at.returns-then-not-is_free c).After-is_free (c.if-not-is_free.true))), omega arith)

pub returns-then-cell-low : goal.returns-then-cell-low
returns-then-cell-low c =
    (faulty_is _ _ _ _ _ (not_above_before (omega arith) (open-cell (goal.at.returns-then-cell-low c).After-is_free (c.if-not-is_free.false)) (omega arith)), omega arith)

pub returns-then-figure-opening : goal.returns-then-figure-opening
returns-then-figure-opening c =
    (faulty_is _ _ _ _ _ (not_above_opening (omega arith) (open-cell (goal.at.returns-then-figure-opening c).After-is_free c.if-not-is_free.false) (omega arith) (omega (arith, opens (goal.at.returns-then-figure-opening c).After-opening))), omega arith)

pub returns-then-figure-gt-CEILING : goal.returns-then-figure-gt-CEILING
returns-then-figure-gt-CEILING c =
    (faulty_is _ _ _ _ _ (above-ceiling (omega arith) (open-cell (goal.at.returns-then-figure-gt-CEILING c).After-is_free c.if-not-is_free.false) (omega arith) (omega (arith, opens (goal.at.returns-then-figure-gt-CEILING c).After-opening)) (omega arith)), omega arith)

pub returns : goal.returns
returns c =
    no_fault _ _ _ _ _ (record { inside = omega arith; open-cell = open-cell (goal.at.returns c).After-is_free c.if-not-is_free.false; rising = omega arith; above = omega (arith, opens (goal.at.returns c).After-opening); within = omega arith })
