-- The records' part of a file is no longer than the file. Assumes nothing.
use Rattle.std.proofs.Common.{◌≡◌, ℕ, ◌-◌, ◌*◌, ◌≤◌, Bool, true, false, List, [], length, take, drop, arith, length-take, length-drop}
use Rattle.model.specs.Basics.{choose}
use Rattle.model.specs.TableFile.{trailer_holds, count_in, back_in, find_records}

pub part_short : (file part : List ℕ) → part ≡ find_records file → length part ≤ length file
unfolding find_records
part_short file part e = rw e (two (trailer_holds file))
  where
    two : (t : Bool) → length (choose t (take (6 * count_in file) (drop (length file - back_in file) file)) []) ≤ length file
    two true = omega (arith, length-take (6 * count_in file) (drop (length file - back_in file) file), length-drop (length file - back_in file) file)
    two false = omega arith
