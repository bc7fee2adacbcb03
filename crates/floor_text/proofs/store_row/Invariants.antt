-- `floor_text::store_row` meets its contract: the invariant: the first letters are stored, and the rest of the part is as it was.
use Rattle.std.proofs.Common.{◌≡◌, ◌++◌, map, take, drop}
use Rattle.model.specs.FloorText.{byte_of}
use Rattle.floor_text.proofs.store_row.Given as goal

abbrev pub invariant-loop-i : goal.invariant-loop-i
invariant-loop-i l = l.part ≡ map byte_of (take l.i l.letters) ++ drop l.i l.initial.part
