-- `opening::open_trial` meets its contract: a trial is opened as a run of one.
use Rattle.learning.proofs.Words.{◌∙◌}
use Rattle.opening.proofs.Promise.{run_of_one}
use Rattle.opening.proofs.open_trial.Goals as goal

pub returns : goal.returns
returns c places e =
    c.open_run.ensures places e ∙ run_of_one _ _ _ _ places
