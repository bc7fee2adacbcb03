-- `picture::ways::draw_trial` meets its contract. The loop's invariant: the page keeps its place.
use Rattle.picture.specs.Pages.{Stays}
use Rattle.picture.proofs.ways.draw_trial.Given as goal

abbrev pub invariant-loop : goal.invariant-loop
invariant-loop l = Stays l.initial.page l.page
