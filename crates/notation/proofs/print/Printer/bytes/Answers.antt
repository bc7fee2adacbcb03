-- `notation::print::Printer::bytes` meets its contract: the bytes are copied over those from the place on.
use Rattle.std.proofs.Common.{refl, arith}
use Rattle.notation.proofs.Decimals.{copied}
use Rattle.notation.proofs.print.Printer.bytes.Goals as goal

pub returns : goal.returns
returns c =
    record {
      lent = refl;
      printed = record { written = copied _ _ _ _ _ c.copy.ensures (omega arith) c.requires; next = refl };
    }
