-- `lookahead::fine_step` meets its contract: the step is the model's, and its price small.
use Rattle.learning.proofs.Words.{arith, sym}
use Rattle.floor.proofs.Steps.{stepped}
use Rattle.lookahead.proofs.fine_step.Goals as goal

pub returns-in_err-to : goal.returns-in_err-to
returns-in_err-to c =
    rw c.from_residual.ensures (sym c.in_err-to.ensures)

pub fine-requires : goal.fine-requires
fine-requires c =
    (stepped _ c.requires.sized _ _ _ _ (sym c.in_ok-to.ensures)).most

pub returns : goal.returns
returns c =
    let s = stepped _ c.requires.sized _ _ _ _ (sym c.in_ok-to.ensures) in
    record {
      price = c.in_ok-to.field-0.cost;
      step = sym c.in_ok-to.ensures;
      is = c.fine.ensures;
      few = s.few;
      most = omega (arith, s.most);
    }
