-- `line::scan` meets its contract. The loop's invariant: the numbers so far, with those of the bytes left, are the line's, and they are seven at most.
use Rattle.std.proofs.Common.{rules}
use Rattle.line.proofs.Laws.{unended}
use Rattle.line.proofs.scan.Goals as goal

pub returns-clause-none : goal.returns-clause-none
returns-clause-none c = search (unended, rules)
