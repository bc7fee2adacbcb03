-- The digits but the last are printed first, where there are any, then the last.
use Rattle.std.proofs.Common.{ℕ, arith, subst, sym}
use Rattle.notation.proofs.Decimals.{digits_more}
use Rattle.notation.proofs.Prints.{Front, front_none, front_some, room_last, prints_last}
use Rattle.notation.proofs.print.Printer.+decimal.Goals as goal
use Rattle.notation.proofs.print.Printer.+decimal.Goals.{Joined-n-gt9, then-n-gt9, else-n-gt9}

front : (t : ℕ) (c : Joined-n-gt9 t) → Front c.args.n c.args.self.now c.if-n-gt9.self
front t c =
    elim c.if-n-gt9.branch [
      | then-n-gt9 w ↦ subst (Front c.args.n c.args.self.now) (sym w.self-is) (front_some w.if-n-gt9.true (omega arith) w.decimal.ensures)
      | else-n-gt9 w ↦ subst (Front c.args.n c.args.self.now) (sym w.self-is) (front_none c.args.n c.args.self.now (omega (arith, w.if-n-gt9.false)))
    ]

pub decimal-requires : goal.decimal-requires
decimal-requires t c =
    (omega arith, omega (arith, c.requires, digits_more c.args.n (omega arith) (omega arith)))

pub byte-requires : goal.byte-requires
byte-requires t c =
    room_last (front t (goal.at.byte-requires t c).Joined-n-gt9) c.requires

pub returns : goal.returns
returns t c =
    prints_last (front t (goal.at.returns t c).Joined-n-gt9) c.byte.ensures
