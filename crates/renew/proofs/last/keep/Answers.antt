-- `renew::last::keep` meets its contract: after the `if` the list is `Roomy`, and what goes in is put behind what stays.
use Rattle.std.proofs.Common.{arith, rules}
use Rattle.renew.proofs.Keeping.{Roomy, roomy, roomy-moved, roomy_more}
use Rattle.renew.proofs.last.keep.Goals as goal
use Rattle.renew.proofs.last.keep.Goals.{Joined-kept-held, then-kept-held, else-kept-held}

-- after the `if`
room : (c : Joined-kept-held) → let a = c.args in Roomy a.kept.now a.held a.more.now c.if-kept-held.kept c.if-kept-held.stay
room c =
    elim c.if-kept-held.branch [
      | then-kept-held w ↦ rw (w.kept-is, w.stay-is) (roomy-moved _ _ _ (omega arith) _ w.to_front.ensures (omega arith) (omega arith))
      | else-kept-held w ↦ rw (w.kept-is, w.stay-is) (roomy _ _ _ (omega arith) (omega arith))
    ]

pub returns-clause-last : goal.returns-clause-last
returns-clause-last c = roomy_more (room (goal.at.returns-clause-last c).Joined-kept-held) c.bytes.ensures (search rules)
