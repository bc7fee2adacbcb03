-- `decision::judge` meets its contract: a check that is refused stops the next ones, and one that is done gives what the next ones ask for.
use Rattle.learning.proofs.Words.{sym}
use Rattle.model.specs.Decision.{judge}
use Rattle.model.proofs.Accepted.{settings_judges}
use Rattle.decision.proofs.Judging.{then_on, then_ends, measured, roomy_path, judged-refused, judged_checked}
use Rattle.decision.proofs.judge.Goals as goal

pub returns-in_err-floor : goal.returns-in_err-floor
unfolding judge
returns-in_err-floor c =
    judged-refused c.from_residual.ensures.1 (then_ends _ (sym c.in_err-floor.ensures))

pub returns-in_err-path_room : goal.returns-in_err-path_room
unfolding judge
returns-in_err-path_room c =
    let one = c.in_ok-floor.ensures.1 in
    judged-refused c.from_residual-in_err-path_room.ensures.1
    (then_on (sym one) (then_ends _ (c.in_err-path_room.ensures _ (measured _ one))))

pub returns-in_err-moves_room : goal.returns-in_err-moves_room
unfolding judge
returns-in_err-moves_room c =
    let one = c.in_ok-floor.ensures.1 in
    judged-refused c.from_residual-in_err-moves_room.ensures.1
    (then_on (sym one) (then_on (c.in_ok-path_room.ensures _ (measured _ one)) (then_ends _ c.in_err-moves_room.ensures)))

pub returns-in_err-settings : goal.returns-in_err-settings
unfolding judge
returns-in_err-settings c =
    let one = c.in_ok-floor.ensures.1 in
    judged-refused c.from_residual-in_err-settings.ensures.1
    (then_on (sym one) (then_on (c.in_ok-path_room.ensures _ (measured _ one)) (then_on c.in_ok-moves_room.ensures (then_ends _ c.in_err-settings.ensures))))

pub returns-in_err-places : goal.returns-in_err-places
unfolding judge
returns-in_err-places c =
    let one = c.in_ok-floor.ensures.1 in
    judged-refused c.from_residual-in_err-places.ensures.1
    (then_on (sym one)
    (then_on (c.in_ok-path_room.ensures _ (measured _ one))
    (then_on c.in_ok-moves_room.ensures
    (then_on c.in_ok-settings.ensures
    (then_ends _ (rw c.in_ok-floor.ensures.0 at c.in_err-places.ensures))))))

pub returns-in_err-goals_hold : goal.returns-in_err-goals_hold
unfolding judge
returns-in_err-goals_hold c =
    let one = c.in_ok-floor.ensures.1 in
    judged-refused c.from_residual-in_err-goals_hold.ensures.1
    (then_on (sym one)
    (then_on (c.in_ok-path_room.ensures _ (measured _ one))
    (then_on c.in_ok-moves_room.ensures
    (then_on c.in_ok-settings.ensures
    (then_on (rw c.in_ok-floor.ensures.0 at c.in_ok-places.ensures)
    (then_ends _ c.in_err-goals_hold.ensures))))))

pub returns-in_err-figures : goal.returns-in_err-figures
unfolding judge
returns-in_err-figures c =
    let one = c.in_ok-floor.ensures.1 in
    judged-refused c.from_residual-in_err-figures.ensures.1
    (then_on (sym one)
    (then_on (c.in_ok-path_room.ensures _ (measured _ one))
    (then_on c.in_ok-moves_room.ensures
    (then_on c.in_ok-settings.ensures
    (then_on (rw c.in_ok-floor.ensures.0 at c.in_ok-places.ensures)
    (then_on c.in_ok-goals_hold.ensures
    (then_ends _ (c.in_err-figures.ensures _ (measured _ one)))))))))

pub state_holds-requires-clause-settings : goal.state_holds-requires-clause-settings
state_holds-requires-clause-settings c =
    (settings_judges _).gives (sym c.in_ok-settings.ensures)

pub state_holds-requires-clause-wide : goal.state_holds-requires-clause-wide
state_holds-requires-clause-wide c =
    let one = c.in_ok-floor.ensures.1 in
    roomy_path c.in_ok-floor.ensures.0 (c.in_ok-path_room.ensures _ (measured _ one))

pub returns : goal.returns
unfolding judge
returns c =
    let one = c.in_ok-floor.ensures.1 in
    judged_checked (rw c.in_ok-floor.ensures.0 at c.state_holds.ensures) (λ e.
    then_on (sym one)
    (then_on (c.in_ok-path_room.ensures _ (measured _ one))
    (then_on c.in_ok-moves_room.ensures
    (then_on c.in_ok-settings.ensures
    (then_on (rw c.in_ok-floor.ensures.0 at c.in_ok-places.ensures)
    (then_on c.in_ok-goals_hold.ensures
    (then_on (c.in_ok-figures.ensures _ (measured _ one))
    e)))))))
