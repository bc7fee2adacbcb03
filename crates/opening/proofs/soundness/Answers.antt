-- `opening::soundness` meets its contract: what it finds are the true distances, and they judge as the model does.
use Rattle.learning.proofs.Words.{rules}
use Rattle.opening.proofs.Truth.{judged-soundness}
use Rattle.opening.proofs.soundness.Goals as goal

pub returns : goal.returns
returns c = search (rules, judged-soundness)
