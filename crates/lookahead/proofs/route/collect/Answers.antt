-- `lookahead::route::collect` meets its contract. The loop's invariant: the moves from the cell on stand at the end. The measure is the cell's cost.
use Rattle.learning.proofs.Words.{rules}
use Rattle.lookahead.proofs.Tracing.{costs_of, in_of, some_prior, collects_room, collects_none, collects_more, collected}
use Rattle.lookahead.proofs.route.collect.Goals as goal

pub loop-cell-init : goal.loop-cell-init
loop-cell-init c =
    search (rules, collects_none)

pub back-link-requires-clause-costs : goal.back-link-requires-clause-costs
back-link-requires-clause-costs c =
    search (rules, costs_of)

pub back-link-requires-clause-inside : goal.back-link-requires-clause-inside
back-link-requires-clause-inside c =
    in_of c.requires.asked c.requires.seen _ c.loop-cell.invariant.near

pub back-link-requires-clause-some : goal.back-link-requires-clause-some
back-link-requires-clause-some c =
    some_prior c.requires.asked c.requires.seen _ c.loop-cell.invariant.near c.loop-cell-test.true

pub overflow_sub-k : goal.overflow_sub-k
overflow_sub-k c =
    search (rules, collects_room)

pub loop-cell-preserved : goal.loop-cell-preserved
loop-cell-preserved c =
    search (rules, collects_more)

pub returns : goal.returns
returns c =
    search (rules, collected)
