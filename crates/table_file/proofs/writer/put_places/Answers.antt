-- `table_file::writer::put_places` meets its contract: the invariant: the places passed are put.
use Rattle.std.proofs.Common.{◌≡◌, arith, add-one}
use Rattle.model.specs.Floor.{goals_of}
use Rattle.notation.proofs.Prints.{prints_then, room_left}
use Rattle.table_file.proofs.Writing.{places-long}
use Rattle.table_file.proofs.writer.put_places.Goals as goal

pub half-requires : goal.half-requires
half-requires c = room_left c.loop-i.invariant _ _ c.requires (omega (arith, places-long (goals_of c.args.goals) c.loop-i.i))

pub loop-i-preserved : goal.loop-i-preserved
loop-i-preserved c = rw (add-one c.loop-i.i, ← c.goal_place.ensures) (prints_then c.loop-i.invariant c.half.ensures)

pub returns : goal.returns
returns c = let e : c.loop-i.i ≡ 4 = omega arith in rw e at c.loop-i.invariant
