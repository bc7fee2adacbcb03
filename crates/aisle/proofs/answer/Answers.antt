-- `aisle::answer` meets its contract: a refusal is told by its line, and all else is told already.
use Rattle.aisle.proofs.Answers.{refused, answered}
use Rattle.aisle.proofs.answer.Goals as goal

pub returns-in-Err : goal.returns-in-Err
returns-in-Err c =
    let (is, still) = c.in-Err.ensures in
    answered (refused _ c.requires is (rw still at c.refusal_line.ensures))

pub returns-in_default : goal.returns-in_default
returns-in_default c = answered c.in_default.ensures
