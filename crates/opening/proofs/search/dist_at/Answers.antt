-- `opening::search::dist_at` meets its contract: 32 bits hold no distance above `none`.
use Rattle.learning.proofs.Words.{get_or, refl, div-add-mod', arith}
use Rattle.opening.specs.Chain.{links, dist_at}
use Rattle.opening.proofs.search.dist_at.Goals as goal

pub returns : goal.returns
unfolding dist_at
returns c = (refl, omega (arith, c.type_inv.list c.args.x, div-add-mod' (get_or c.args.list.now c.args.x 0) links))
