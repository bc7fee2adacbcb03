-- `line::depth::numbers_given` meets its contract: the line at the front is malformed, bytes are left after it, or it is the whole.
use Rattle.std.proofs.Common.{rules}
use Rattle.line.proofs.Depths.{given_bad, given_after, given_whole}
use Rattle.line.proofs.depth.numbers_given.Goals as goal

pub returns-in_err-first-clause-malformed : goal.returns-in_err-first-clause-malformed
returns-in_err-first-clause-malformed c = search (given_bad, rules)

pub returns-then-first-line-clause-malformed : goal.returns-then-first-line-clause-malformed
returns-then-first-line-clause-malformed c = search (given_after, rules)

pub returns-clause-formed : goal.returns-clause-formed
returns-clause-formed c = search (given_whole, rules)
