-- `Floor::south_byte` meets its contract.
use Rattle.learning.proofs.Words.{arith}
use Rattle.floor.proofs.Stepping.{last_row, south_off}
use Rattle.floor.proofs.Floor.south_byte.Goals as goal

pub returns-then-self-cell : goal.returns-then-self-cell
returns-then-self-cell c =
    let h = rw (← c.self.view_is) at c.requires in
    rw (← c.self.view_is) (south_off _ _ (last_row _ c.self.invariant _ h (omega arith)))
