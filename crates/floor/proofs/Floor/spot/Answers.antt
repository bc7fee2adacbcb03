-- `Floor::spot` meets its contract: the column is the model's own, by division.
use Rattle.learning.proofs.Words.{arith, rules}
use Rattle.model.proofs.Moves.{free-below}
use Rattle.floor.proofs.Floor.spot.Goals as goal

pub bounds-self-inside-cell : goal.bounds-self-inside-cell
bounds-self-inside-cell c =
    let h = rw (← c.self.view_is) at (free-below _ _ c.requires) in omega (arith, h)

pub north_byte-requires : goal.north_byte-requires
north_byte-requires c = search (rules, free-below)

pub west_byte-requires : goal.west_byte-requires
west_byte-requires c = search (rules, free-below)

pub east_byte-requires : goal.east_byte-requires
east_byte-requires c = search (rules, free-below)

pub south_byte-requires : goal.south_byte-requires
south_byte-requires c = search (rules, free-below)
