-- `floor_text::writer::put_line` meets its contract: a word, the digits and the LF, one after another.
use Rattle.learning.proofs.Words.{[], ◌∷◌, length-append, arith}
use Rattle.model.specs.FloorText.{LF}
use Rattle.model.specs.Line.{decimal}
use Rattle.notation.proofs.Prints.{prints_then, room_left}
use Rattle.floor_text.proofs.writer.put_line.Goals as goal

pub decimal-requires : goal.decimal-requires
decimal-requires c = room_left c.bytes.ensures _ _ c.requires (omega (arith, length-append (decimal c.args.n) (LF ∷ [])))

pub byte-requires : goal.byte-requires
byte-requires c = room_left (prints_then c.bytes.ensures c.decimal.ensures) _ _ c.requires (omega (arith, length-append (decimal c.args.n) (LF ∷ []), length-append c.args.word.now (decimal c.args.n)))

pub returns : goal.returns
returns c = prints_then c.bytes.ensures (prints_then c.decimal.ensures c.byte.ensures)
