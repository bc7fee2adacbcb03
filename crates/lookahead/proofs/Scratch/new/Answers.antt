-- `Scratch::new` meets its contract: marks of zeros are below the base 1.
use Rattle.lookahead.proofs.Fresh.{used-zeros}
use Rattle.lookahead.proofs.Scratch.new.Goals as goal

pub returns : goal.returns
returns c = used-zeros
