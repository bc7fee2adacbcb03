-- `journey::say_counts` meets its contract: two texts printed one after another, and told.
use Rattle.learning.proofs.Words.{arith}
use Rattle.notation.proofs.Prints.{prints_then}
use Rattle.journey.proofs.Telling.{counts-room, told_one}
use Rattle.journey.proofs.say_counts.Goals as goal

pub spill-requires : goal.spill-requires
spill-requires c = omega (arith, counts-room _ _ c.requires c.say_none.ensures.printed c.counts.ensures)

pub returns : goal.returns
returns c = told_one (prints_then c.say_none.ensures.printed c.counts.ensures) c.requires.size (counts-room _ _ c.requires c.say_none.ensures.printed c.counts.ensures).0 c.spill.ensures
