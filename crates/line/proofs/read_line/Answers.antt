-- `line::read_line` meets its contract: no line, one of too many numbers or too few, or what its numbers ask for.
use Rattle.std.proofs.Common.{rules}
use Rattle.line.proofs.Laws.{too_many, asks_nothing, asks}
use Rattle.line.proofs.read_line.Goals as goal

pub returns-in_err-line-clause-malformed : goal.returns-in_err-line-clause-malformed
returns-in_err-line-clause-malformed c = search (too_many, rules)

pub returns-in_err-settings-clause-malformed : goal.returns-in_err-settings-clause-malformed
returns-in_err-settings-clause-malformed c = search (asks_nothing, rules)

pub returns-clause-asked : goal.returns-clause-asked
returns-clause-asked c = search (asks, rules)
