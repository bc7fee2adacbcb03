-- `opening::open_table` meets its contract: one check after another.
use Rattle.learning.proofs.Words.{rules}
use Rattle.model.proofs.Accepted.{then_stops, then_goes}
use Rattle.model.specs.Opening.{open_table}
use Rattle.opening.proofs.open_table.Goals as goal

pub returns-in_err-floor : goal.returns-in_err-floor
unfolding open_table
returns-in_err-floor c = search (rules, then_stops)

pub returns-in_err-scale : goal.returns-in_err-scale
unfolding open_table
returns-in_err-scale c = search (rules, then_stops, then_goes)

pub returns-in_err-benches : goal.returns-in_err-benches
unfolding open_table
returns-in_err-benches c = search (rules, then_stops, then_goes)

pub returns-in_err-goals_hold : goal.returns-in_err-goals_hold
unfolding open_table
returns-in_err-goals_hold c = search (rules, then_stops, then_goes)

pub returns : goal.returns
unfolding open_table
returns c = search (rules, then_goes)
