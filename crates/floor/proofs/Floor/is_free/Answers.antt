-- `Floor::is_free` meets its contract: the bytes are as many as the cells, so a cell past them is off the floor.
use Rattle.learning.proofs.Words.{sym, ap, ◌∙◌, ◌&&◌, arith, le-ltb, length, get_or}
use Rattle.model.specs.Floor.{free_byte, free}
use Rattle.floor.proofs.Stepping.{byte_tells}
use Rattle.floor.proofs.Floor.is_free.Goals as goal

pub returns-then-cell-self : goal.returns-then-cell-self
returns-then-cell-self c =
    rw (← c.self.view_is) (c.free_byte.ensures ∙ sym (byte_tells _ _ (omega arith)))

pub returns-else-cell-self : goal.returns-else-cell-self
unfolding free
returns-else-cell-self c =
    let x = c.args.cell in
    rw (← c.self.view_is) (le-ltb x (length c.self.inside.bytes.now) (omega arith)
    ∙ sym (ap (λ t. t && free_byte (get_or c.self.inside.bytes.now x 0)) (le-ltb x _ (omega arith))))
