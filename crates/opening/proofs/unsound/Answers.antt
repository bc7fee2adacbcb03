-- `opening::unsound` meets its contract. The invariant: no cell that was passed is above its true figure.
use Rattle.learning.proofs.Words.{sym, ◌∙◌, arith}
use Rattle.model.proofs.Accepted.{naming-names, naming-done}
use Rattle.opening.proofs.unsound.Goals as goal

pub returns-then-is_above : goal.returns-then-is_above
returns-then-is_above c =
    sym (naming-names _ _ 7 c.loop-x.x (omega arith) c.loop-x.invariant (sym c.is_above.ensures ∙ c.if-is_above.true))

pub returns : goal.returns
returns c = sym (naming-done _ _ 7 (λ k h. c.loop-x.invariant k (omega arith)))
