-- `aisle::opened` meets its contract: what the opening says decides what is told.
use Rattle.learning.proofs.Words.{refl}
use Rattle.aisle.proofs.Answers.{fill-refused, open-refused, open_told, says_exit}
use Rattle.aisle.proofs.opened.Goals as goal

pub returns-in_err-fill_opening : goal.returns-in_err-fill_opening
returns-in_err-fill_opening c =
    says_exit _ _ _ c.from_residual.ensures.1 (fill-refused _ _ _ _ _ c.requires.readied c.in_err-fill_opening.ensures c.requires.lent.figures refl)

pub returns-in_err-open_trial : goal.returns-in_err-open_trial
returns-in_err-open_trial c =
    let R = c.requires.readied in
    let L = c.requires.lent in
    says_exit _ _ _ c.from_residual-in_err-open_trial.ensures.1
    (open-refused _ _ _ _ _ R c.in_ok-fill_opening.ensures L.figures refl L.places (c.in_err-open_trial.ensures _ refl) refl)

pub returns : goal.returns
returns c =
    let R = c.requires.readied in
    let L = c.requires.lent in
    open_told _ _ _ _ _ R c.in_ok-fill_opening.ensures L.figures refl L.places (c.in_ok-open_trial.ensures _ refl) refl c.tell_all.ensures
