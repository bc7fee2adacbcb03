-- `Site::open` meets its contract: what 1, 3, 4 and 27 have shown is the site's.
use Rattle.table_file.proofs.Reading.{opened}
use Rattle.table_file.proofs.site.Site.open.Goals as goal

pub invariant_of-result : goal.invariant_of-result
invariant_of-result c = let e = c.in_ok-floor.ensures in record { opened = rw e.0 (opened _ _ _ _ e.1).0 }
