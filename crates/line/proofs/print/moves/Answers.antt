-- `line::print::moves` meets its contract. The loop's invariant: the first moves are printed.
use Rattle.std.proofs.Common.{arith, subst}
use Rattle.notation.specs.Prints.{Prints}
use Rattle.notation.proofs.Prints.{prints_then, room_left}
use Rattle.line.proofs.Decimals.{digits_push, digits-length}
use Rattle.line.proofs.print.moves.Goals as goal

pub byte-requires : goal.byte-requires
byte-requires c =
    room_left c.loop-m.invariant _ 1 c.requires.room (omega (arith, digits-length c.args.ms.now c.loop-m.m-index (omega arith)))

pub loop-m-preserved : goal.loop-m-preserved
loop-m-preserved c =
    subst (λ ds. Prints c.args.out.now ds c.byte.new.self) (digits_push c.args.ms.now c.loop-m.m-index (omega arith)) (prints_then c.loop-m.invariant c.byte.ensures)
