-- `decision::held::stands` meets its contract: each test that fails is a fault of the cell, and a cell that passes them all is fair and new.
use Rattle.learning.proofs.Words.{◌≡◌, true, sym, ◌∙◌, subst, arith}
use Rattle.model.specs.Floor.{Floor, free}
use Rattle.model.proofs.Moves.{free_few}
use Rattle.decision.proofs.Noting.{stands_again, stands_new}
use Rattle.decision.proofs.held.stands.Goals as goal

pub noted-requires-clause-cell : goal.noted-requires-clause-cell
noted-requires-clause-cell c =
    omega (arith, free_few _ _ c.requires.sized (sym c.if-not-is_free.ensures))

pub returns-then-noted : goal.returns-then-noted
returns-then-noted c =
    stands_again (search) (sym c.noted.ensures ∙ c.if-noted.true)

pub bounds-place-c : goal.bounds-place-c
bounds-place-c c =
    omega (arith, free_few _ _ c.requires.sized (sym c.if-not-is_free.ensures))

pub returns : goal.returns
returns c =
    let here = sym c.if-not-is_free.ensures in
    stands_new c.from-c.ensures c.requires.places (sym c.if-noted.ensures) (free_few _ _ c.requires.sized here)
    (record {
      free = subst (λ (f : Floor). free f c.from-c.result ≡ true) c.requires.measured here;
      away = sym c.if-is_goal.ensures;
      other = c.if-c-current.false;
    })
