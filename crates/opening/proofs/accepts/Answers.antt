-- `opening::accepts` meets its contract: one check after another, and the first refusal stands.
use Rattle.learning.proofs.Words.{rules, sym}
use Rattle.model.proofs.Accepted.{then_stops, then_goes}
use Rattle.model.proofs.Benches.{places_judges, goals_judges, benched}
use Rattle.model.proofs.Moves.{free-below}
use Rattle.model.specs.Opening.{accepts}
use Rattle.opening.proofs.accepts.Goals as goal

pub returns-in_err-places : goal.returns-in_err-places
unfolding accepts
returns-in_err-places c = search (rules, then_stops)

pub returns-in_err-goals_hold : goal.returns-in_err-goals_hold
unfolding accepts
returns-in_err-goals_hold c = search (rules, then_stops, then_goes)

pub returns-in_err-figures : goal.returns-in_err-figures
unfolding accepts
returns-in_err-figures c = search (rules, then_stops, then_goes)

pub soundness-requires : goal.soundness-requires
soundness-requires c =
    let h = (places_judges _ _ _).gives (sym c.in_ok-places.ensures) in
    let o = (goals_judges _).gives (sym c.in_ok-goals_hold.ensures) in
    search (rules, free-below _ _ h.0, benched _ _ h.1 o)

pub returns : goal.returns
unfolding accepts
returns c = search (rules, then_goes)
