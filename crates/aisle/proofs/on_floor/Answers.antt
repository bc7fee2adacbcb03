-- `aisle::on_floor` meets its contract: the job is the line's, and the table and the path list are as long as the floor.
use Rattle.learning.proofs.Words.{ap, arith, length, take, ◌∙◌, replicate}
use Rattle.model.specs.Line.{job_in}
use Rattle.model.proofs.Moves.{sized-cells}
use Rattle.aisle.specs.Answers.{opened_lines}
use Rattle.aisle.proofs.Answers.{part-is, says_as}
use Rattle.aisle.proofs.on_floor.Goals as goal

pub returns : goal.returns
returns c =
    let a = c.args in
    let j = job_in a.s a.sizes.width a.sizes.height in
    let z = c.requires.readied.sized in
    says_as _ _ _
    (ap (λ j. opened_lines j a.floor.now a.s.start a.s.trials (take (length a.floor.now) (replicate 4096 0))) c.job_in.ensures
    ∙ part-is j a.floor.now a.s.start a.s.trials (length a.floor.now) (omega (arith, z.cells, sized-cells z))
    ∙ ap (λ n. opened_lines j a.floor.now a.s.start a.s.trials (replicate n 0)) z.cells)
    c.opened.ensures
