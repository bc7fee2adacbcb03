-- `renew::answer` meets its contract: what the public call promises of the last bytes holds of the whole.
use Rattle.learning.proofs.Words.{rules}
use Rattle.renew.proofs.Answering.{answered}
use Rattle.renew.proofs.answer.Goals as goal

pub returns : goal.returns
returns c =
    search (answered, rules)
