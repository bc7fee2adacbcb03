-- `floor_text::writer::put_row` meets its contract: the invariant: `Lettering`, the first letters are put.
use Rattle.std.proofs.Common.{arith}
use Rattle.std.proofs.lemmas.List.{length-map}
use Rattle.model.specs.FloorWritten.{letter_of}
use Rattle.notation.proofs.Prints.{prints_then, room_left}
use Rattle.floor_text.proofs.Writing.{letter_room, lettering_more, lettered}
use Rattle.floor_text.proofs.writer.put_row.Goals as goal

pub byte-requires : goal.byte-requires
byte-requires c = letter_room c.loop-cell.invariant c.requires

pub loop-cell-preserved : goal.loop-cell-preserved
loop-cell-preserved c = lettering_more c.loop-cell.invariant c.letter_of.ensures (omega arith) c.byte.ensures

pub byte-requires-2 : goal.byte-requires-2
byte-requires-2 c = room_left (lettered c.loop-cell.invariant (omega arith)) _ _ c.requires (omega (arith, length-map c.args.cells.now letter_of))

pub returns : goal.returns
returns c = prints_then (lettered c.loop-cell.invariant (omega arith)) c.byte-2.ensures
