-- `line::depth::first_line` meets its contract. The loop's invariant: `Counting`, so many numbers are read.
use Rattle.std.proofs.Common.{rules}
use Rattle.line.proofs.Depths.{first_unended, first_no_word, first_ends, counting_more}
use Rattle.line.proofs.depth.first_line.Goals as goal

pub returns-in_err-word-clause-malformed : goal.returns-in_err-word-clause-malformed
returns-in_err-word-clause-malformed c = rw c.from_residual.ensures (first_no_word c.loop-at.invariant c.in_err-word.ensures.none)

pub returns-then-word-clause-malformed : goal.returns-then-word-clause-malformed
returns-then-word-clause-malformed c = rw c.then_some.ensures (first_ends c.loop-at.invariant c.in_ok-word.ensures.some c.if-word.true c.formed.ensures).0

pub returns-then-word-clause-formed : goal.returns-then-word-clause-formed
returns-then-word-clause-formed c = rw c.then_some.ensures (first_ends c.loop-at.invariant c.in_ok-word.ensures.some c.if-word.true c.formed.ensures).1

pub loop-at-preserved : goal.loop-at-preserved
loop-at-preserved c = search (counting_more, rules)

pub returns-clause-malformed : goal.returns-clause-malformed
returns-clause-malformed c = search (first_unended, rules)
