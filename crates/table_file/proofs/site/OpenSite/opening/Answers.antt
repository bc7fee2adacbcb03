-- `OpenSite::opening` meets its contract: an opening figure is within the ceiling.
use Rattle.std.proofs.Common.{arith}
use Rattle.model.proofs.OpeningSound.{opening-within}
use Rattle.table_file.proofs.site.OpenSite.opening.Goals as goal

pub returns : goal.returns
returns c =
    let o = c.args.self.now.opened in
    (c.opening.ensures, omega (arith, c.opening.ensures, opening-within _ _ _ _ o.sized o.scale o.benches c.requires))
