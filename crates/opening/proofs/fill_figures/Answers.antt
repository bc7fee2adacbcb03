-- `opening::fill_figures` meets its contract. The invariant: the places passed hold their opening figures, whatever the floor's bytes.
use Rattle.learning.proofs.Words.{[], ◌∙◌, arith}
use Rattle.floor.specs.Moves.{flat}
use Rattle.model.proofs.OpeningSound.{opening-high}
use Rattle.model.specs.Floor.{opening_table, goals_of}
use Rattle.opening.proofs.Fill.{fill_all}
use Rattle.opening.proofs.fill_figures.Goals as goal

pub overflow_cast-table : goal.overflow_cast-table
overflow_cast-table c =
    let a = c.args in
    let p = c.requires in
    let high = opening-high (flat a.width a.height []) p.0 p.1 p.2 a.q (goals_of a.goals) c.loop-x.x p.3 p.4.on (omega arith) in
    omega (arith, c.opening.ensures [], high)

pub returns : goal.returns
unfolding opening_table
returns c bytes = fill_all _ _ _ (c.loop-x.invariant.0 ∙ c.requires.5) (λ k h. c.loop-x.invariant.1 bytes k (omega arith))
