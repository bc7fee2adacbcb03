-- `checks::figures` meets its contract. The invariant: no cell that was passed has a figure above the ceiling.
use Rattle.learning.proofs.Words.{sym, arith}
use Rattle.model.proofs.Accepted.{figures-names, figures-done}
use Rattle.checks.proofs.figures.Goals as goal

pub returns-then-figure-gt-HIGHEST : goal.returns-then-figure-gt-HIGHEST
returns-then-figure-gt-HIGHEST c f e =
    sym (figures-names f _ _ (omega arith) c.loop-x.invariant c.if-figure-gt-HIGHEST.true)

pub returns : goal.returns
returns c f e = sym (figures-done f _ (λ k h. c.loop-x.invariant k (omega arith)))
