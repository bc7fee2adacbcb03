-- `Floor::north_byte` meets its contract.
use Rattle.learning.proofs.Words.{rules}
use Rattle.floor.proofs.Stepping.{first_row, north_off}
use Rattle.floor.proofs.Floor.north_byte.Goals as goal

pub returns-then-cell-self : goal.returns-then-cell-self
returns-then-cell-self c =
    rw (← c.self.view_is) (search (rules, north_off, first_row))
