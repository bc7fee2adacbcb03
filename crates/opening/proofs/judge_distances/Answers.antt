-- `opening::judge_distances` meets its contract, by whether the start has a distance.
use Rattle.learning.proofs.Words.{rules}
use Rattle.opening.proofs.Truth.{judged-far, judged-near}
use Rattle.opening.proofs.judge_distances.Goals as goal

pub returns-then-dist-start-ge-FAR : goal.returns-then-dist-start-ge-FAR
returns-then-dist-start-ge-FAR c = search (rules, judged-far)

pub returns : goal.returns
returns c = search (rules, judged-near)
