-- `lookahead::rings::rings` meets its contract. The loop's invariant: rings 0 to r are marked, none is empty, and no goal is in one of them.
use Rattle.learning.proofs.Words.{rules, arith}
use Rattle.model.proofs.Moves.{free_few}
use Rattle.lookahead.proofs.Levels.{ringed_begin, ringed_next, ringed_framed, next_blocked, next_framed}
use Rattle.lookahead.proofs.rings.rings.Goals as goal

pub begin-requires : goal.begin-requires
begin-requires c =
    search (rules, free_few)

pub loop-r-init : goal.loop-r-init
loop-r-init c =
    ringed_begin c.requires.sized _ c.requires.free c.requires.fresh c.begin.ensures c.requires.goals.1

pub returns-then-end-to : goal.returns-then-end-to
returns-then-end-to c =
    (c.loop-r.r, _, next_blocked c.loop-r.invariant c.spread-end.ensures (omega arith) c.if-end-to.true)

pub returns-then-goal_marked : goal.returns-then-goal_marked
returns-then-goal_marked c =
    search (rules, next_framed)

pub loop-r-preserved : goal.loop-r-preserved
loop-r-preserved c =
    ringed_next c.loop-r.invariant c.spread-end.ensures c.if-end-to.false c.goal_marked.ensures c.if-goal_marked.false

pub returns : goal.returns
returns c =
    let p = c.requires in ringed_framed c.loop-r.invariant (omega arith) p.depth.0
