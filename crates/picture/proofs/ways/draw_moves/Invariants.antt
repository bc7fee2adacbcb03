-- `picture::ways::draw_moves` meets its contract. The loop's invariant: the page keeps its place.
use Rattle.picture.specs.Pages.{Stays}
use Rattle.picture.proofs.ways.draw_moves.Given as goal

abbrev pub invariant-loop-m : goal.invariant-loop-m
invariant-loop-m l = Stays l.initial.page l.page
