-- `table_file::writer::put_places` meets its contract: the invariant: the places passed are put.
use Rattle.model.specs.Floor.{goals_of}
use Rattle.notation.specs.Prints.{Prints}
use Rattle.table_file.specs.Trailer.{places_to}
use Rattle.table_file.proofs.writer.put_places.Given as goal

abbrev pub invariant-loop-i : goal.invariant-loop-i
invariant-loop-i l = Prints l.fn.out (places_to (goals_of l.goals) l.i) l.out
