-- `lookahead::leg` meets its contract.
use Rattle.learning.proofs.Words.{ap, ◌∙◌, ℕ, ◌/◌, arith}
use Rattle.model.specs.Lookahead.{fineness}
use Rattle.lookahead.proofs.Meaning.{near_few, near-cost, near-coarse}
use Rattle.lookahead.proofs.leg.Goals as goal

pub offset_bounds-cost-x : goal.offset_bounds-cost-x
offset_bounds-cost-x c =
    omega (arith, near_few c.requires.asked _ c.requires.near)

pub bounds-cost-x : goal.bounds-cost-x
bounds-cost-x c =
    omega (arith, near_few c.requires.asked _ c.requires.near)

pub returns : goal.returns
returns c =
    let p = c.requires in
    let e = c.coarse.ensures ∙ ap (λ (n : ℕ). n / fineness) (p.seen.costs _ p.near) in
    (e ∙ near-coarse p.asked _ p.near, omega (arith, e, near-cost p.asked _ p.near))
