-- `lookahead::route::led` meets its contract: each test that fails leads nowhere.
use Rattle.learning.proofs.Words.{arith}
use Rattle.model.proofs.Moves.{free_few}
use Rattle.lookahead.proofs.Grow.{moved}
use Rattle.lookahead.proofs.Linking.{led_out, led_slack, led_new}
use Rattle.lookahead.proofs.route.led.Goals as goal
use Rattle.lookahead.proofs.route.led.Goals.{then-mark-cell-via-then-mark-cell, then-mark-cell-via-else-mark-cell+then-cost-cell}

pub offset_bounds-cost-x : goal.offset_bounds-cost-x
offset_bounds-cost-x c =
    omega (arith, free_few _ _ c.requires.costs.sized c.requires.cell.placed.free)

pub bounds-cost-x : goal.bounds-cost-x
bounds-cost-x c =
    omega (arith, free_few _ _ c.requires.costs.sized c.requires.cell.placed.free)

pub returns-then-mark-cell : goal.returns-then-mark-cell
returns-then-mark-cell c =
    let M = moved c.requires.costs.sized c.in_ok-cell.ensures in
    elim c.then-mark-cell.branch [
      | then-mark-cell-via-then-mark-cell w ↦ led_out M w.if-mark-cell.true
      | then-mark-cell-via-else-mark-cell+then-cost-cell w ↦ led_slack M c.in_ok-cell.ensures.is w.if-cost-cell.true
    ]

pub returns : goal.returns
returns c =
    let p = c.requires in
    led_new p.costs.sized p.eight (moved p.costs.sized c.in_ok-cell.ensures) c.if-mark-cell.false c.in_ok-cell.ensures.is c.if-cost-cell.false
