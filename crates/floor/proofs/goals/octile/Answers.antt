-- `floor::goals::octile` meets its contract: both gaps are below 64, so the figure fits.
use Rattle.model.specs.Floor.{octile}
use Rattle.floor.proofs.goals.octile.Goals as goal

pub returns : goal.returns
unfolding octile
returns c bytes = cc
