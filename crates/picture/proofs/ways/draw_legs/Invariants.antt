-- `picture::ways::draw_legs` meets its contract. The loop's invariant: the page keeps its place.
use Rattle.picture.specs.Pages.{Stays}
use Rattle.picture.proofs.ways.draw_legs.Given as goal

abbrev pub invariant-loop-leg : goal.invariant-loop-leg
invariant-loop-leg l = Stays l.initial.page l.page
