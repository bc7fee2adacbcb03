-- `opening::open` meets its contract: a job is opened as a trial whose path list is as long as its table.
use Rattle.learning.proofs.Words.{refl, ◌∙◌}
use Rattle.opening.proofs.Promise.{answered, trial_of_table}
use Rattle.opening.proofs.open.Goals as goal

pub returns : goal.returns
returns c =
    answered (c.open_trial.ensures c.args.table.now refl ∙ trial_of_table _ _ _ _)
