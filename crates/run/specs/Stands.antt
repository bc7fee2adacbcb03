-- Where a trial stands between two decisions, and what one more decision takes and makes of it.
use Rattle.std.specs.Prelude.{ℕ, ◌+◌, ◌<◌, ◌≡◌, List, get_or}
use Rattle.answers.specs.declared.Answer.TheVariants as A
use Rattle.answers.specs.declared.Job.{Job}
use Rattle.answers.specs.declared.Report.{Report}
use Rattle.model.specs.Decision.{Deed, act}
use Rattle.lookahead.specs.Contract.{Used}
use Rattle.decision.specs.Laying.{way_of, Shown}
use Rattle.decision.specs.Ready.{Ready, Places}
use Rattle.run.specs.declared.Stand.{Stand}
use Rattle.run.specs.declared.Workspace.{Workspace}
use Rattle.run.specs.Trials.{Fits, noted}

-- a trial before its first decision, and its record once it is over
abbrev pub set_out : ℕ → Stand
set_out start = record { state = record { current = start; learned = 0; length = 0 }; decisions = 0; learned = 0; travel = 0; base = 1; answer = A.Stayed 0 }

abbrev pub tallied_of : Stand → List ℕ → Report
tallied_of w along = record { decisions = w.decisions; learned = w.learned; kept = get_or along w.state.length 0; travel = w.travel }

-- a decision can be made and its leg noted, and each count and what is added to it is below 2^63, so that the sums fit in 64 bits
pub record Onward (j : Job) (bytes : List ℕ) (w : Stand) (table path along : List ℕ) : Type 0 where
  pub ready : Ready j bytes w.state table path
  pub fits : Fits along w.state.length (act j bytes w.state table path).state.length (act j bytes w.state table path).cost
  pub decisions : w.decisions < 9223372036854775808
  pub learned : w.learned < 9223372036854775808
  pub travel : w.travel < 9223372036854775808
  pub rise : (act j bytes w.state table path).rise < 9223372036854775808
  pub leg : (act j bytes w.state table path).cost < 9223372036854775808

-- the deed d is done: the lent lists are as it leaves them, its leg is noted, and it is counted
pub record Went (d : Deed) (w : Stand) (along : List ℕ) (r : Stand) (table' path' along' : List ℕ) : Type 0 where
  pub state : r.state ≡ d.state
  pub decisions : r.decisions ≡ w.decisions + 1
  pub learned : r.learned ≡ w.learned + d.rise
  pub travel : r.travel ≡ w.travel + d.cost
  pub table : table' ≡ d.table
  pub path : path' ≡ d.path
  pub sums : along' ≡ noted along w.state.length d.state.length d.cost

-- the scratch lists after it serve the next decision, and first to lay the moves of this one, which the answer tells
pub record Left (j : Job) (bytes : List ℕ) (d : Deed) (w r : Stand) (l : Workspace) (path : List ℕ) : Type 0 where
  pub used : Used r.base l.scratch.mark l.scratch.cost l.scratch.list
  pub places : Places l.place path r.state.length
  pub shown : Shown j bytes w.state.current r.answer r.base l.scratch.mark l.scratch.cost
  pub way : d.way ≡ way_of j bytes w.state.current r.answer
