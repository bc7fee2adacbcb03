-- `opening::open_run` meets its contract: one check after another, and the first refusal stands.
use Rattle.learning.proofs.Words.{ℕ, ◌≡◌, List, length, rules, sym, ap, ◌∙◌}
use Rattle.model.specs.Floor.{size, Sized}
use Rattle.model.specs.Checks.{path_room, floor_of, settings}
use Rattle.model.specs.Opening.{trials_hold, open_run}
use Rattle.model.proofs.Accepted.{then_stops, then_goes, then_done, sizes_judges, settings_judges}
use Rattle.opening.proofs.Promise.{both_stop, both_go}
use Rattle.opening.proofs.open_run.Goals as goal
use Rattle.opening.proofs.open_run.Goals.{After-path_room}

sizes_gave : (e : After-path_room) → let f = floor_of e.args.job e.args.floor.now in Sized f × (length e.args.table.now ≡ size f)
sizes_gave e = (sizes_judges _ _).gives e.in_ok-floor.ensures.1

-- the path list that the check speaks of is any of that length
room_is : (e : After-path_room) (places : List ℕ) → length places ≡ e.args.path → e.path_room.result ≡ path_room (floor_of e.args.job e.args.floor.now) (length places)
room_is e places q =
    let a = e.args in
    e.path_room.ensures (floor_of a.job a.floor.now) (sym (sizes_gave e).1) ∙ ap (path_room _) (sym q)

pub returns-in_err-floor : goal.returns-in_err-floor
unfolding open_run
returns-in_err-floor c places q = search (rules, then_stops)

pub returns-in_err-path_room : goal.returns-in_err-path_room
unfolding open_run
returns-in_err-path_room c places q =
    search (rules, then_goes, then_stops, room_is (goal.at.returns-in_err-path_room c).After-path_room places q)

pub returns-in_err-reports_room : goal.returns-in_err-reports_room
unfolding open_run
returns-in_err-reports_room c places q =
    search (rules, then_goes, then_stops, room_is (goal.at.returns-in_err-reports_room c).After-path_room places q)

pub returns-in_err-run_settings : goal.returns-in_err-run_settings
unfolding open_run
returns-in_err-run_settings c places q =
    search (rules, then_goes, both_stop, room_is (goal.at.returns-in_err-run_settings c).After-path_room places q)

pub accepts-requires-clause-fine : goal.accepts-requires-clause-fine
accepts-requires-clause-fine c =
    let set = then_done (settings c.args.job) (trials_hold c.args.trials) (sym c.in_ok-run_settings.ensures) in ((settings_judges _).gives set.0).fine

pub accepts-requires-clause-long : goal.accepts-requires-clause-long
accepts-requires-clause-long c =
    rw c.in_ok-floor.ensures.0 (sizes_gave (goal.at.accepts-requires-clause-long c).After-path_room).1

pub returns : goal.returns
unfolding open_run
returns c places q =
    search (rules, then_goes, both_go, room_is (goal.at.returns c).After-path_room places q)
