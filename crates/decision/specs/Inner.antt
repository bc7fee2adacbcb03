-- What the functions inside the decision take from each other and promise.
use Rattle.std.specs.Prelude.{ℕ, suc, ◌+◌, ◌<◌, ◌≡◌, Bool, true, false, ◌&&◌, List, ltb, eqb, length, get_or, set, take}
use Rattle.learning.specs.Path.{before}
use Rattle.answers.specs.declared.Job.{Job}
use Rattle.answers.specs.declared.State.{State}
use Rattle.answers.specs.declared.Place.TheVariants as P
use Rattle.answers.specs.declared.Answer.TheVariants as A
use Rattle.answers.specs.Outcomes.{Verdict}
use Rattle.std.specs.Prelude.{Ok}
use Rattle.model.specs.Lookahead.{seen, new_figure, target}
use Rattle.model.specs.Decision.{Deed, state_holds, learn}
use Rattle.decision.specs.declared.Acted.{Acted}
use Rattle.model.proofs.Held.{Fair, Sound}
use Rattle.decision.specs.Ready.{Places}

-- whether the cell c is noted among the path's first n: the place under its number is one of theirs, and c stands there
unfoldable pub is_noted : (path place : List ℕ) → (n c : ℕ) → Bool
is_noted path place n c = ltb (get_or place c 0) n && eqb (get_or path (get_or place c 0) 0) c

-- one turn of the path's check: its cell at i is fair and new, and its place is noted; or it is fair and stands there already, or it is not fair
pub record Stands (j : Job) (bytes : List ℕ) (current : ℕ) (path : List ℕ) (i : ℕ) (place : List ℕ) (r : Bool) : Type 0 where
  pub fair : r ≡ true → Fair j bytes current (get_or path i 0)
  pub places : r ≡ true → Places place path (i + 1)
  pub fault : r ≡ false → Fair j bytes current (get_or path i 0) → (k : ℕ) × (k < i) × (get_or path k 0 ≡ get_or path i 0)

-- the whole path's check
pub record Walked (j : Job) (bytes : List ℕ) (current : ℕ) (path : List ℕ) (n : ℕ) (place : List ℕ) (r : Bool) : Type 0 where
  pub sound : r ≡ true → Sound j bytes current path n
  pub places : r ≡ true → Places place path n
  pub fault : r ≡ false → Sound j bytes current path n → ⊥

-- the state's check: its verdict, and where it is done the noted places
pub record Checked (j : Job) (bytes : List ℕ) (s : State) (path place : List ℕ) (v : Verdict) : Type 0 where
  pub verdict : v ≡ state_holds j bytes s path
  pub places : v ≡ Ok tt → Places place path s.length

-- a path that the current cell can be written to
pub record Open (path place : List ℕ) (n current : ℕ) : Type 0 where
  pub room : n < length path
  pub short : n < 4096
  pub cell : current < 4096
  pub places : Places place path n
  pub new : (k : ℕ) → k < n → get_or path k 0 ≡ current → ⊥

-- the current cell written after the path's last, and the length that the cut leaves
pub record Extended (path : List ℕ) (n current target : ℕ) (path' place' : List ℕ) (r : ℕ) : Type 0 where
  pub written : path' ≡ set path n current
  pub length : r ≡ length (before target (take (suc n) (set path n current)))
  pub places : Places place' path' r

-- a decision past the checks that is refused after all: nothing changes
abbrev pub refusing : State → (number base : ℕ) → Acted
refusing s number base = record { answer = A.Refused (record { number = number; place = P.Nowhere }); state = s; rise = 0; cost = 0; base = base }

-- a decision past the lookahead
unfoldable pub learns : Job → List ℕ → State → (table path : List ℕ) → Deed
learns j bytes s table path = let v = seen j bytes s.current in learn j bytes s v table path (new_figure j bytes v table) (target j bytes v table)
