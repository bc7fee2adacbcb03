-- `table_file::reader::names` meets its contract: by the trailer's edition.
use Rattle.table_file.proofs.Reading.{points, ending-room, second-room}
use Rattle.table_file.proofs.reader.names.Goals as goal

pub edition_in-requires : goal.edition_in-requires
edition_in-requires c =
    search ending-room

pub trailer_of-requires : goal.trailer_of-requires
trailer_of-requires c =
    (points _ c.requires).room

pub trailer_of-requires-2 : goal.trailer_of-requires-2
trailer_of-requires-2 c =
    search second-room
