-- `decision::held::state_holds` meets its contract: each test is a part of the fact that the check judges.
use Rattle.learning.proofs.Words.{ap, arith}
use Rattle.std.specs.Prelude.{Err}
use Rattle.model.specs.Floor.{size}
use Rattle.decision.proofs.Judging.{checked_refused, checked_done}
use Rattle.decision.proofs.held.state_holds.Goals as goal
use Rattle.decision.proofs.held.state_holds.Goals.{then-job-state-via-then-job-state, then-job-state-via-else-job-state+then-cells-n}

pub returns-then-job-state : goal.returns-then-job-state
returns-then-job-state c =
    let cells = ap size c.requires.measured in
    checked_refused (omega arith) (ap Err c.numbered.ensures)
    (λ h.
    elim c.then-job-state.branch [
      | then-job-state-via-then-job-state w ↦ omega arith
      | then-job-state-via-else-job-state+then-cells-n w ↦ omega arith
    ])

pub returns-then-not-path_holds : goal.returns-then-not-path_holds
returns-then-not-path_holds c =
    let cells = ap size c.requires.measured in
    let walked = c.path_holds.ensures in
    checked_refused (omega arith) (ap Err c.numbered-then-not-path_holds.ensures) (λ h. walked.fault c.if-not-path_holds.true h.sound)

pub returns : goal.returns
returns c =
    let cells = ap size c.requires.measured in
    let walked = c.path_holds.ensures in
    let r = c.if-not-path_holds.false in
    checked_done (omega arith) (record { within = omega arith; short = omega arith; sound = walked.sound r }) (walked.places r)
