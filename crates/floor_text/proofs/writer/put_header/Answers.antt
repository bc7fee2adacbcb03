-- `floor_text::writer::put_header` meets its contract: its lines, one after another.
use Rattle.std.proofs.Common.{◌++◌, arith, length-append}
use Rattle.model.specs.FloorText.{type_and_height, and_width}
use Rattle.model.specs.FloorWritten.{size_line}
use Rattle.notation.proofs.Prints.{prints_then, room_left}
use Rattle.floor_text.proofs.Writing.{length_head}
use Rattle.floor_text.proofs.writer.put_header.Goals as goal

pub put_line-requires-2 : goal.put_line-requires-2
put_line-requires-2 c =
    room_left c.put_line.ensures _ _ c.requires (omega (arith, length_head c.args.width c.args.height, length-append type_and_height (size_line c.args.height)))

pub bytes-requires : goal.bytes-requires
bytes-requires c =
    let h = type_and_height ++ size_line c.args.height in
    let w = and_width ++ size_line c.args.width in
    room_left (prints_then c.put_line.ensures c.put_line-2.ensures) _ _ c.requires (omega (arith, length_head c.args.width c.args.height, length-append h w, length-append type_and_height (size_line c.args.height), length-append and_width (size_line c.args.width)))

pub returns : goal.returns
returns c = prints_then c.put_line.ensures (prints_then c.put_line-2.ensures c.bytes.ensures)
