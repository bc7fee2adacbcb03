-- `notation::digits::read` meets its contract. The loop's invariant: `Reading`, what is left to read makes the same run.
use Rattle.learning.proofs.Words.{rules, not-true, not-false}
use Rattle.notation.proofs.Runs.{reading-end, reading-stop, reading_more}
use Rattle.notation.proofs.digits.read.Goals as goal

pub returns-then-not-is_digit : goal.returns-then-not-is_digit
returns-then-not-is_digit c =
    search (reading-stop, not-true, rules)

pub loop-i-preserved : goal.loop-i-preserved
loop-i-preserved c =
    search (reading_more, not-false, rules)

pub returns : goal.returns
returns c =
    search (reading-end, rules)
