-- `lookahead::route::back` meets its contract. The loop's invariant: the first k moves, those to the lowest cells, lead to no cell before x.
use Rattle.learning.proofs.Words.{arith}
use Rattle.lookahead.proofs.Linking.{unled_more, led-prior, unled_all}
use Rattle.lookahead.proofs.route.back.Goals as goal

pub returns-in-Some : goal.returns-in-Some
returns-in-Some c =
    led-prior (omega arith) c.loop-k.invariant c.rising.ensures c.requires.costs.sized c.in-Some.ensures

pub loop-k-preserved : goal.loop-k-preserved
loop-k-preserved c =
    unled_more (omega arith) c.loop-k.invariant c.rising.ensures c.in_default.ensures

pub unreachable-requires : goal.unreachable-requires
unreachable-requires c =
    unled_all c.requires.costs.sized (omega arith) c.loop-k.invariant c.requires.some.0 c.requires.some.1
