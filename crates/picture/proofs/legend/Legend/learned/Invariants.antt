-- `picture::legend::Legend::learned` meets its contract. The loop's invariant: the page keeps its place.
use Rattle.picture.specs.Pages.{Stays}
use Rattle.picture.proofs.legend.Legend.learned.Given as goal

abbrev pub invariant-loop-step : goal.invariant-loop-step
invariant-loop-step l = Stays l.initial.page l.page
