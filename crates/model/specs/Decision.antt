-- One decision: its checks in their order, and all that each answer leaves.
use Rattle.std.specs.Prelude.{ℕ, suc, ◌+◌, ◌-◌, ◌*◌, Bool, true, false, not, ◌&&◌, List, [], ◌++◌, map, reverse, leb, ltb, eqb, length, get_or, set, take, drop}
use Rattle.learning.specs.Ground.{View}
use Rattle.learning.specs.Path.{before}
use Rattle.answers.specs.declared.Job.{Job}
use Rattle.answers.specs.declared.State.{State}
use Rattle.answers.specs.declared.Place.TheVariants as P
use Rattle.answers.specs.Outcomes.{Verdict}
use Rattle.std.specs.Prelude.{Ok, Err}
use Rattle.answers.specs.declared.Answer.{Answer}
use Rattle.answers.specs.declared.Answer.TheVariants as A
use Rattle.model.specs.Basics.{choose, every, distinct, then, unless}
use Rattle.model.specs.Floor.{size, free, opposite}
use Rattle.model.specs.Grounds.{is_goal}
use Rattle.model.specs.Checks.{ceiling, floor_of, goals, sizes, path_room, settings, places, goals_hold, figures}
use Rattle.model.specs.Lookahead.{seen, ring, w, empty_ring, new_figure, target, route, moves_along}

-- whether a cell is a goal of the job
abbrev pub at_goal : Job → List ℕ → ℕ → Bool
at_goal j bytes x = is_goal (floor_of j bytes) (goals j) x

-- the path's cells: the first `length` entries of the lent list
abbrev pub on_path : State → List ℕ → List ℕ
on_path s path = take s.length path

-- how many places a decision asks for its moves
abbrev pub least_room : ℕ
least_room = 288

-- 2: fewer than 288 places left for moves
unfoldable pub moves_room : ℕ → ℕ → Verdict
moves_room room from = unless (leb (from + least_room) room) 2

-- 8, its first part: u above q × T; path longer than width × height; a path cell off the floor, blocked, a goal, repeated or equal to the current one
unfoldable pub state_holds : Job → List ℕ → State → List ℕ → Verdict
state_holds j bytes s path =
    unless (leb s.learned (j.q * j.quota) && leb s.length (size (floor_of j bytes))
    && every (λ x. free (floor_of j bytes) x && not (at_goal j bytes x) && not (eqb x s.current)) (on_path s path)
    && distinct (on_path s path)) 8

-- the checks ahead of the lookahead, in their order
unfoldable pub judge : Job → List ℕ → State → (table path : List ℕ) → (room from : ℕ) → Verdict
judge j bytes s table path room from =
    let f = floor_of j bytes in
    then (sizes f (length table))
    (then (path_room f (length path))
    (then (moves_room room from)
    (then (settings j)
    (then (places f s.current (goals j))
    (then (goals_hold j.goals)
    (then (figures f table)
    (state_holds j bytes s path)))))))

-- What a decision past these checks comes to: its answer, the state and the lists after it, its moves and what they cost.
pub record Deed : Type 0 where
  pub answer : Answer
  pub state : State
  pub table : List ℕ
  pub path : List ℕ
  pub rise : ℕ
  pub way : List ℕ
  pub cost : ℕ

-- nothing changes
abbrev pub unchanged : State → (table path : List ℕ) → Answer → Deed
unchanged s table path a = record { answer = a; state = s; table = table; path = path; rise = 0; way = []; cost = 0 }

abbrev pub refused : State → (table path : List ℕ) → ℕ → Deed
refused s table path number = unchanged s table path (A.Refused (record { number = number; place = P.Nowhere }))

-- 2: "If the new figure is greater than the current cell's, store it; the learned amount a is the rise, else 0. No other table entry is touched."
abbrev pub rise : List ℕ → ℕ → ℕ → ℕ
rise table s new = new - get_or table s 0

abbrev pub stored : List ℕ → ℕ → ℕ → List ℕ
stored table s new = choose (ltb (get_or table s 0) new) (set table s new) table

-- A choice of routes: the cells after s in order, to a cell x of the window around s. The carts take `route`; any other leaves the same figures, states and
-- costs, and differs in moves alone (`Chosen` of the proofs)
abbrev pub Choice : Type 0
Choice = (s x : ℕ) → List ℕ

-- 3: "go forward. The current cell is written at the place after the path's last, the length grows by one, u grows by a, and the cart takes the route.
-- If the target is already on the path, the length is cut so that the target and all after it are off the path; old entries remain in the list beyond
-- the length."
unfoldable pub forward_by : Choice → Job → List ℕ → State → View → (table path : List ℕ) → (new t : ℕ) → Deed
forward_by choice j bytes s v table path new t =
    let a = rise table s.current new in
    let written = set path s.length s.current in
    let way = moves_along (floor_of j bytes) s.current (choice s.current t) in
    record {
      answer = A.Forward t a (length way);
      state = record { current = t; learned = s.learned + a; length = length (before t (take (suc s.length) written)) };
      table = stored table s.current new;
      path = written;
      rise = a;
      way = way;
      cost = w j bytes v t;
    }

-- 4: "u stays. With a path, the last cell is taken off (only the length changes, its entry stays in the list), and the cart goes there by the reverse
-- of that cell's own route to where it stands. With none it stays." The last cell is l, and v what is seen from there
unfoldable pub back_out_by : Choice → Job → List ℕ → State → View → (table path : List ℕ) → (new l : ℕ) → Deed
back_out_by choice j bytes s v table path new l =
    let a = rise table s.current new in
    let way = map opposite (reverse (moves_along (floor_of j bytes) l (choice l s.current))) in
    record {
      answer = A.BackedOut l a (length way);
      state = record { current = l; learned = s.learned; length = s.length - 1 };
      table = stored table s.current new;
      path = path;
      rise = a;
      way = way;
      cost = w j bytes v s.current;
    }

unfoldable pub stay : State → (table path : List ℕ) → ℕ → Deed
stay s table path new =
    let a = rise table s.current new in
    record { answer = A.Stayed a; state = s; table = stored table s.current new; path = path; rise = a; way = []; cost = 0 }

-- backing out, its check last. 8: the current cell is not on the last ring of the cell taken off
unfoldable pub go_back_by : Choice → Job → List ℕ → State → (table path : List ℕ) → ℕ → Deed
go_back_by choice j bytes s table path new =
    let l = get_or path (s.length - 1) 0 in
    let v = seen j bytes l in
    elim (eqb s.length 0) [
      | true ↦ stay s table path new
      | false ↦ elim (eqb (ring j bytes v s.current) v.last) [ true ↦ back_out_by choice j bytes s v table path new l | false ↦ refused s table path 8 ]
    ]

-- with the lookahead's new figure and target. 10: the new figure is greater than the one stored, and passes the ceiling. Then the quota's test:
-- "If u + a ≤ q × T: go forward." "Otherwise back out"
unfoldable pub learn_by : Choice → Job → List ℕ → State → View → (table path : List ℕ) → (new t : ℕ) → Deed
learn_by choice j bytes s v table path new t =
    elim (ltb (get_or table s.current 0) new && ltb ceiling new) [
      | true ↦ refused s table path 10
      | false ↦ elim (leb (s.learned + rise table s.current new) (j.q * j.quota)) [
        | true ↦ forward_by choice j bytes s v table path new t
        | false ↦ go_back_by choice j bytes s table path new
      ]
    ]

-- 1 and 2: done at a goal, "arriving at any of them ends the trial"; else the lookahead. 9: a ring up to d is empty and no goal is in one before it
unfoldable pub act_by : Choice → Job → List ℕ → State → (table path : List ℕ) → Deed
act_by choice j bytes s table path =
    let v = seen j bytes s.current in
    elim (at_goal j bytes s.current) [
      | true ↦ unchanged s table path A.Arrived
      | false ↦ elim (empty_ring j bytes v v.last) [
        | true ↦ refused s table path 9
        | false ↦ learn_by choice j bytes s v table path (new_figure j bytes v table) (target j bytes v table)
      ]
    ]

-- All that a decision answers and leaves.
pub record Outcome : Type 0 where
  pub answer : Answer
  pub state : State
  pub table : List ℕ
  pub path : List ℕ
  pub moves : List ℕ

-- the moves go into the lent list from the place named; bytes before it and after the last move are untouched
abbrev pub laid : List ℕ → ℕ → List ℕ → List ℕ
laid moves from way = take from moves ++ (way ++ drop (from + length way) moves)

abbrev pub outcome_of : Verdict → Deed → State → (table path moves : List ℕ) → ℕ → Outcome
outcome_of (Ok _) d s table path moves from =
    record { answer = d.answer; state = d.state; table = d.table; path = d.path; moves = laid moves from d.way }
outcome_of (Err r) d s table path moves from = record { answer = A.Refused r; state = s; table = table; path = path; moves = moves }

unfoldable pub decide_by : Choice → Job → List ℕ → State → (table path moves : List ℕ) → ℕ → Outcome
decide_by choice j bytes s table path moves from =
    outcome_of (judge j bytes s table path (length moves) from) (act_by choice j bytes s table path) s table path moves from

-- the carts' own, by `route`
abbrev pub forward : Job → List ℕ → State → View → (table path : List ℕ) → (new t : ℕ) → Deed
forward j bytes = forward_by (route j bytes) j bytes

abbrev pub back_out : Job → List ℕ → State → View → (table path : List ℕ) → (new l : ℕ) → Deed
back_out j bytes = back_out_by (route j bytes) j bytes

abbrev pub go_back : Job → List ℕ → State → (table path : List ℕ) → ℕ → Deed
go_back j bytes = go_back_by (route j bytes) j bytes

abbrev pub learn : Job → List ℕ → State → View → (table path : List ℕ) → (new t : ℕ) → Deed
learn j bytes = learn_by (route j bytes) j bytes

abbrev pub act : Job → List ℕ → State → (table path : List ℕ) → Deed
act j bytes = act_by (route j bytes) j bytes

abbrev pub decide : Job → List ℕ → State → (table path moves : List ℕ) → ℕ → Outcome
decide j bytes = decide_by (route j bytes) j bytes
