-- What a decision past its checks takes, and what it promises, over the model's own functions.
use Rattle.std.specs.Prelude.{ℕ, ◌*◌, ◌≤◌, ◌<◌, ◌≡◌, true, List, length, get_or}
use Rattle.answers.specs.declared.Job.{Job}
use Rattle.answers.specs.declared.State.{State}
use Rattle.answers.specs.declared.Decided.{Decided}
use Rattle.answers.specs.Outcomes.{Verdict}
use Rattle.std.specs.Prelude.{Ok}
use Rattle.answers.specs.Says.{says_answer}
use Rattle.model.specs.Floor.{Sized, size, free}
use Rattle.model.specs.Checks.{ceiling, floor_of, goals, Benched}
use Rattle.model.specs.Decision.{Deed, Outcome, judge}
use Rattle.model.proofs.Accepted.{Settings}
use Rattle.model.proofs.Held.{Fair}
use Rattle.lookahead.specs.declared.Scratch.{Scratch}
use Rattle.lookahead.specs.Contract.{Used}
use Rattle.decision.specs.declared.Acted.{Acted}
use Rattle.decision.specs.Laying.{way_of, counts, Shown}

-- The place of each of the path's first n cells is noted under the cell's number, so no cell stands there twice.
pub record Places (place path : List ℕ) (n : ℕ) : Type 0 where
  pub size : length place ≡ 4096
  pub noted : (k : ℕ) → k < n → get_or place (get_or path k 0) 0 ≡ k

-- What the checks give and a trial keeps: the floor, the settings and the sizes; figures within the ceiling; the current cell free, and goals on the floor;
-- the learned amount within the quota; and a path of fair cells that leaves room for the current one.
pub record Ready (j : Job) (bytes : List ℕ) (s : State) (table path : List ℕ) : Type 0 where
  pub sized : Sized (floor_of j bytes)
  pub settings : Settings j
  pub figures : length table ≡ size (floor_of j bytes)
  pub low : (x : ℕ) → get_or table x 0 ≤ ceiling
  pub wide : size (floor_of j bytes) ≤ length path
  pub here : free (floor_of j bytes) s.current ≡ true
  pub benches : Benched (size (floor_of j bytes)) (goals j)
  pub within : s.learned ≤ j.q * j.quota
  pub short : s.length < size (floor_of j bytes)
  pub fair : (k : ℕ) → k < s.length → Fair j bytes s.current (get_or path k 0)

-- A judged call: its verdict, and where it is done the noted places.
pub record Judged (j : Job) (bytes : List ℕ) (s : State) (table path : List ℕ) (room from : ℕ) (place : List ℕ) (v : Verdict) : Type 0 where
  pub verdict : v ≡ judge j bytes s table path room from
  pub places : v ≡ Ok tt → Places place path s.length

-- The answer, the state, the rise, the cost and the lent lists are those of the model's deed. The moves are not laid nor counted yet, and the answer tells which
-- they are.
pub record Acts (j : Job) (bytes : List ℕ) (s : State) (d : Deed) (r : Acted) (table' path' : List ℕ) : Type 0 where
  pub answer : d.answer ≡ counts r.answer (length d.way)
  pub way : d.way ≡ way_of j bytes s.current r.answer
  pub state : r.state ≡ d.state
  pub rise : r.rise ≡ d.rise
  pub cost : r.cost ≡ d.cost
  pub table : table' ≡ d.table
  pub path : path' ≡ d.path

-- The scratch after a decision serves the next one, and first to lay the moves of this one.
pub record Serves (j : Job) (bytes : List ℕ) (s : State) (r : Acted) (scratch : Scratch) (place path : List ℕ) : Type 0 where
  pub used : Used r.base scratch.mark scratch.cost scratch.list
  pub places : Places place path r.state.length
  pub shown : Shown j bytes s.current r.answer r.base scratch.mark scratch.cost

-- The public decision's answer and lists are those of the model's outcome.
pub record Decides (o : Outcome) (r : Decided) (table' path' moves' : List ℕ) : Type 0 where
  pub answer : says_answer r.answer ≡ says_answer o.answer
  pub state : r.state ≡ o.state
  pub table : table' ≡ o.table
  pub path : path' ≡ o.path
  pub moves : moves' ≡ o.moves
