-- `run::trial` meets its contract: by the two cases of what the opening answers.
use Rattle.learning.proofs.Words.{refl, sym, rules}
use Rattle.run.proofs.Driving.{trial-refused, trial-made}
use Rattle.run.proofs.trial.Goals as goal

pub returns-in_err-open_trial : goal.returns-in_err-open_trial
returns-in_err-open_trial c = let judged = sym (c.in_err-open_trial.ensures c.args.path.now refl) in search (rules, trial-refused)

pub ride-requires : goal.ride-requires
ride-requires c = sym (c.in_ok-open_trial.ensures _ refl)

pub returns : goal.returns
returns c = trial-made _ _ _ _ _ (sym (c.in_ok-open_trial.ensures c.args.path.now refl)) c.ride.ensures
