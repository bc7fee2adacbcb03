-- `journey::say_moves` meets its contract: the moves are printed, and told.
use Rattle.std.proofs.lemmas.List.{length-map}
use Rattle.learning.proofs.Words.{◌+◌, ◌≤◌, arith}
use Rattle.notation.proofs.Prints.{same_length}
use Rattle.journey.proofs.Telling.{told_one}
use Rattle.journey.proofs.say_moves.Goals as goal
use Rattle.journey.proofs.say_moves.Goals.{After-moves}

-- the place after the moves is within the list
within : (c : After-moves) → c.moves.new.out.at ≤ 65536
within c = omega (arith, c.moves.ensures.printed.next, length-map c.args.moves.now (λ x. 48 + x))

pub spill-requires : goal.spill-requires
spill-requires c = omega (arith, within (goal.at.spill-requires c).After-moves, same_length c.moves.ensures)

pub returns : goal.returns
returns c = told_one c.moves.ensures c.requires.room.size (within (goal.at.returns c).After-moves) c.spill.ensures
