-- `picture::ground::oblongs` is safe and ends: each stretch of cells begins where the one before it ends. The loop's invariant: the page keeps its place.
use Rattle.std.proofs.Common.{◌-◌, length}
use Rattle.picture.specs.Pages.{Stays}
use Rattle.picture.proofs.ground.oblongs.Given as goal

abbrev pub decreases-loop-x : goal.decreases-loop-x
decreases-loop-x l = length l.kinds - l.x

abbrev pub invariant-loop-x : goal.invariant-loop-x
invariant-loop-x l = Stays l.initial.page l.page
