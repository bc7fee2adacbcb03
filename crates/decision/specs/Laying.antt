-- The moves of a decision, which are laid after it: what laying them takes from the scratch lists, and what it promises.
use Rattle.std.specs.Prelude.{ℕ, ◌≡◌, List, [], map, reverse, length}
use Rattle.answers.specs.declared.Job.{Job}
use Rattle.answers.specs.declared.Answer.{Answer}
use Rattle.answers.specs.declared.Answer.TheVariants as A
use Rattle.model.specs.Floor.{opposite}
use Rattle.model.specs.Decision.{laid}
use Rattle.lookahead.specs.Contract.{Asked, Near, Seen, moves_to}

-- the way back from x by l's own route
abbrev pub way_back : Job → List ℕ → (l x : ℕ) → List ℕ
way_back j bytes l x = map opposite (reverse (moves_to j bytes l x))

-- the moves of a decision at s, by its answer
abbrev pub way_of : Job → List ℕ → (s : ℕ) → Answer → List ℕ
way_of j bytes s A.Arrived = []
way_of j bytes s (A.Forward target rise moves) = moves_to j bytes s target
way_of j bytes s (A.BackedOut target rise moves) = way_back j bytes target s
way_of j bytes s (A.Stayed rise) = []
way_of j bytes s (A.Refused r) = []

-- an answer with its moves counted
abbrev pub counts : Answer → ℕ → Answer
counts A.Arrived n = A.Arrived
counts (A.Forward target rise moves) n = A.Forward target rise n
counts (A.BackedOut target rise moves) n = A.BackedOut target rise n
counts (A.Stayed rise) n = A.Stayed rise
counts (A.Refused r) n = A.Refused r

-- x is in the window around l, which the scratch lists hold
pub record Shows (j : Job) (bytes : List ℕ) (l x base : ℕ) (mark cost : List ℕ) : Type 0 where
  pub asked : Asked j bytes l
  pub seen : Seen j bytes l base mark cost
  pub near : Near j bytes l x

-- The scratch lists hold the window that the moves lie in: forward the one around s, back the one around the cell gone to.
abbrev pub shown_by : Job → List ℕ → (s : ℕ) → Answer → (base : ℕ) → (mark cost : List ℕ) → Type 0
shown_by j bytes s A.Arrived base mark cost = Unit {0}
shown_by j bytes s (A.Forward target rise moves) base mark cost = Shows j bytes s target base mark cost
shown_by j bytes s (A.BackedOut target rise moves) base mark cost = Shows j bytes target s base mark cost
shown_by j bytes s (A.Stayed rise) base mark cost = Unit {0}
shown_by j bytes s (A.Refused r) base mark cost = Unit {0}

pub record Shown (j : Job) (bytes : List ℕ) (s : ℕ) (a : Answer) (base : ℕ) (mark cost : List ℕ) : Type 0 where
  pub window : shown_by j bytes s a base mark cost

-- the moves of a way, laid into the lent list
pub record Lays (lent : List ℕ) (from : ℕ) (way moves' : List ℕ) (r : ℕ) : Type 0 where
  pub count : r ≡ length way
  pub moves : moves' ≡ laid lent from way
