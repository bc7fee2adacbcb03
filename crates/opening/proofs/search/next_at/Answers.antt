-- `opening::search::next_at` meets its contract.
use Rattle.learning.proofs.Words.{refl}
use Rattle.opening.specs.Chain.{next_at}
use Rattle.opening.proofs.search.next_at.Goals as goal

pub returns : goal.returns
unfolding next_at
returns c = refl
