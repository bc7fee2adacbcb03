-- `calls::files::find_records` meets its contract: the part that is printed is no longer than the file.
use Rattle.std.proofs.Common.{arith}
use Rattle.std.proofs.lemmas.Grind.{common_steps}
use Rattle.calls.proofs.Laws.{part_short}
use Rattle.calls.proofs.files.find_records.Goals as goal

pub list-requires-2 : goal.list-requires-2
list-requires-2 c = let h = part_short _ _ c.find_records-part.ensures.part in grind (arith, common_steps)

pub returns-clause-answers : goal.returns-clause-answers
returns-clause-answers c = let h = part_short _ _ c.find_records-part.ensures.part in grind (arith, common_steps)
