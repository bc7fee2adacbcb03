-- `decision::back::go_back` meets its contract: no path, an empty ring on the way, which means that the cart is lost, or a window.
use Rattle.learning.proofs.Words.{refl, arith, rules}
use Rattle.decision.proofs.Acting.{current_in, table-short, asked_last, lost, acts_stays, acts_lost}
use Rattle.decision.proofs.back.go_back.Goals as goal

pub store-requires : goal.store-requires
store-requires c =
    (search current_in, search rules)

pub returns-then-length-eq0-clause-acts : goal.returns-then-length-eq0-clause-acts
returns-then-length-eq0-clause-acts c = search acts_stays

pub back_to-requires-clause-table : goal.back_to-requires-clause-table
back_to-requires-clause-table c =
    (current_in c.requires.ready, table-short c.requires.ready)

pub returns-in_default-clause-acts : goal.returns-in_default-clause-acts
returns-in_default-clause-acts c =
    let last = c.from-l.ensures in
    acts_lost _ last (omega arith) refl (lost _ (asked_last c.requires.ready last (omega arith)) c.in_default.ensures.1) c.refuse.ensures
