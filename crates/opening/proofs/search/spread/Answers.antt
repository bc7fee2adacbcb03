-- `opening::search::spread` meets its contract. The invariant is `Held`; the places pass each cell once, which bounds the steps.
use native.Mathlib.Nat.{mul-le-mul_left}
use Rattle.learning.proofs.Words.{◌≡◌, ◌*◌, ◌-◌, ◌≤◌, ap, arith, length, length-replicate}
use Rattle.model.specs.Floor.{size}
use Rattle.model.proofs.Moves.{sized-cells}
use Rattle.floor.specs.Moves.{all_kinds}
use Rattle.floor.proofs.Steps.{kinds-between}
use Rattle.opening.proofs.Held.{held_start, held_same, held_offered, held-offer, held_none, step-follow, step_move, held-step, held-done}
use Rattle.opening.proofs.search.spread.Given.{Over}
use Rattle.opening.proofs.search.spread.Goals as goal
use Rattle.opening.proofs.search.spread.Goals.{After-cells-steps}

few : (g : Over) (c : After-cells-steps g) → g.row.K ≤ all_kinds
few g c = omega (arith, c.requires.kinds, (kinds-between c.args.floor.now.bytes).1)

pub overflow_mul-steps : goal.overflow_mul-steps
overflow_mul-steps g c = omega (arith, mul-le-mul_left c.cells-steps.result (few g c), c.cells-steps.ensures.count, sized-cells c.cells-steps.ensures.sized)

pub begin-last-requires : goal.begin-last-requires
begin-last-requires g c =
    let long : length c.args.list.now ≡ size c.args.floor.now = rw (c.requires.empty, length-replicate) in
    (rw long c.requires.benched, omega (arith, sized-cells c.cells-steps.ensures.sized))

pub loop-init : goal.loop-init
loop-init g c =
    let steps : g.row.K * c.cells-steps.result - 0 ≡ g.row.K * size c.args.floor.now = omega (arith, ap (λ n. g.row.K * n) c.cells-steps.ensures.count) in
    held_same (held_start c.cells-steps.ensures.sized c.requires.benched c.requires.empty c.begin-last.ensures.0 c.goal_at-places.ensures g.row.K c.requires.kinds)
    c.begin-last.ensures.1 steps

pub least-k-requires : goal.least-k-requires
least-k-requires g c = (omega (arith, few g (goal.at.least-k-requires g c).After-cells-steps), held_offered c.loop.invariant)

pub bounds-places-k : goal.bounds-places-k
bounds-places-k g c = omega (arith, c.least-k.ensures.one, c.loop.invariant.whole, c.requires.kinds)

pub returns-then-cell-eq-END : goal.returns-then-cell-eq-END
returns-then-cell-eq-END g c = held_none c.loop.invariant c.least-k.ensures c.if-cell-eq-END.true

pub offer-v-requires : goal.offer-v-requires
offer-v-requires g c = held-offer c.loop.invariant c.least-k.ensures

pub follow-end-requires-clause-one : goal.follow-end-requires-clause-one
follow-end-requires-clause-one g c = (step-follow c.loop.invariant c.least-k.ensures c.offer-v.ensures c.if-cell-eq-END.false).0

pub follow-end-requires-clause-long : goal.follow-end-requires-clause-long
follow-end-requires-clause-long g c = (step-follow c.loop.invariant c.least-k.ensures c.offer-v.ensures c.if-cell-eq-END.false).1

pub follow-end-requires-clause-near : goal.follow-end-requires-clause-near
follow-end-requires-clause-near g c = (step-follow c.loop.invariant c.least-k.ensures c.offer-v.ensures c.if-cell-eq-END.false).2

pub offset_bounds-places-k : goal.offset_bounds-places-k
offset_bounds-places-k g c = omega (arith, (held-offer c.loop.invariant c.least-k.ensures).1)

pub whole_as_slice-move_on : goal.whole_as_slice-move_on
whole_as_slice-move_on g c = omega (arith, few g (goal.at.whole_as_slice-move_on g c).After-cells-steps)

pub move_on-requires : goal.move_on-requires
move_on-requires g c = step_move c.loop.invariant c.least-k.ensures c.offer-v.ensures c.if-cell-eq-END.false c.follow-end.ensures

pub loop-preserved : goal.loop-preserved
loop-preserved g c =
    held-step c.loop.invariant c.least-k.ensures c.offer-v.ensures c.if-cell-eq-END.false c.follow-end.ensures c.move_on.ensures (omega arith)

pub returns : goal.returns
returns g c = held-done c.loop.invariant (omega arith)
