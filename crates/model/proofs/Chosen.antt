-- Document 02 on smoother routes: "Figures, targets and costs do not change, and that is to be shown." Whatever routes are chosen, decisions, trials and runs
-- agree on all but their moves and the number of them. Document 01's backward rule is one choice and `route` another, both of routes that cost w.
use Prim.Native.Nat.{ℕ, zero, suc, ◌+◌, ◌-◌, ◌*◌, ◌<◌, ◌≤◌}
use mathlib.Core.Path.{◌≡◌, refl, ap, sym, ◌∙◌, subst}
use mathlib.Core.Bool.{Bool, true, false, ◌&&◌}
use mathlib.Core.List.{List, [], ◌∷◌, map}
use lib.Dec.{T, ltb, leb, eqb}
use lib.ListN.{length, get_or}
use Rattle.learning.specs.Route.{Chain, route_of}
use Rattle.learning.specs.Ground.{View, ring_of, last_of, leg_of}
use Rattle.learning.proofs.Routes.{route-chain}
use Rattle.answers.specs.declared.Job.{Job}
use Rattle.answers.specs.declared.State.{State}
use Rattle.answers.specs.declared.Report.{Report}
use Rattle.answers.specs.Outcomes.{Verdict, made_run}
use Rattle.std.specs.Prelude.{Ok, Err}
use Rattle.answers.specs.declared.Answer.{Answer}
use Rattle.answers.specs.declared.Answer.TheVariants as A
use Rattle.model.specs.Floor.{size}
use Rattle.model.specs.Checks.{deepest, ceiling, floor_of, ground_in}
use Rattle.model.specs.Lookahead.{seen, ring, w, empty_ring, new_figure, target, route}
use Rattle.model.specs.Decision.{Deed, Choice, at_goal, judge, rise, forward_by, back_out_by, go_back_by, learn_by, act_by, Outcome, outcome_of, decide_by}
use Rattle.model.specs.Opening.{open_trial, open_run}
use Rattle.model.specs.Ride.{Ride, begun, ridden, next_by, ride_from_by, bound, ride_by, kept, report, trial_of, trial_by, Course, course_from_by, filed_in, run_of, run_by}
use Rattle.model.proofs.Meaning.{net, InWindow, route_means}

-- ---- without the moves, and without their number in the answer

abbrev pub uncounted : Answer → Answer
uncounted A.Arrived = A.Arrived
uncounted (A.Forward t a n) = A.Forward t a 0
uncounted (A.BackedOut t a n) = A.BackedOut t a 0
uncounted (A.Stayed a) = A.Stayed a
uncounted (A.Refused r) = A.Refused r

abbrev pub unmoved : Deed → Deed
unmoved d = record { answer = uncounted d.answer; state = d.state; table = d.table; path = d.path; rise = d.rise; way = []; cost = d.cost }

abbrev pub unmoved_call : Outcome → Outcome
unmoved_call o = record { answer = uncounted o.answer; state = o.state; table = o.table; path = o.path; moves = [] }

abbrev pub unmoved_ride : Ride → Ride
unmoved_ride r =
    record { state = r.state; table = r.table; path = r.path; decisions = r.decisions; learned = r.learned; travel = r.travel; moves = [] }

abbrev pub unmoved_course : Course → Course
unmoved_course c = record { rides = map unmoved_ride c.rides; settled = c.settled; table = c.table; path = c.path }

-- ---- two choices of routes

-- by the same test to the same
by_test : {B C : Type 0} (f : B → C) (t : Bool) {x x' y y' : B} → f x ≡ f x' → f y ≡ f y' → f (elim t [ true ↦ x | false ↦ y ]) ≡ f (elim t [ true ↦ x' | false ↦ y' ])
by_test f true p q = p
by_test f false p q = q

-- a run's answer says no moves
counted : (rs : List Ride) → length rs ≡ length (map unmoved_ride rs)
counted [] = refl
counted (r ∷ rs) = ap suc (counted rs)

reported : (j : Job) (bytes : List ℕ) (rs : List Ride) → map (report j bytes) rs ≡ map (report j bytes) (map unmoved_ride rs)
unfolding kept
reported j bytes [] = refl
reported j bytes (r ∷ rs) = ap (λ l. report j bytes r ∷ l) (reported j bytes rs)

told : (j : Job) (bytes : List ℕ) (o : Course) (table path : List ℕ) (reports : List Report)
    → run_of (Ok tt) j bytes o table path reports ≡ run_of (Ok tt) j bytes (unmoved_course o) table path reports
told j bytes o table path reports i =
    record { answer = made_run (counted o.rides i) o.settled; table = o.table; path = o.path; reports = filed_in (reported j bytes o.rides i) reports }

module _ (c c' : Choice) (j : Job) (bytes : List ℕ) where
  module _ (s : State) (table path : List ℕ) where
    back_alike : (new : ℕ) → unmoved (go_back_by c j bytes s table path new) ≡ unmoved (go_back_by c' j bytes s table path new)
    unfolding go_back_by back_out_by
    back_alike new =
        let v = seen j bytes (get_or path (s.length - 1) 0) in
        by_test unmoved (eqb s.length 0) refl (by_test unmoved (eqb (ring j bytes v s.current) v.last) refl refl)

    learn_alike : (v : View) (new t : ℕ) → unmoved (learn_by c j bytes s v table path new t) ≡ unmoved (learn_by c' j bytes s v table path new t)
    unfolding learn_by forward_by
    learn_alike v new t =
        by_test unmoved (ltb (get_or table s.current 0) new && ltb ceiling new) refl
        (by_test unmoved (leb (s.learned + rise table s.current new) (j.q * j.quota)) refl (back_alike new))

    pub act_alike : unmoved (act_by c j bytes s table path) ≡ unmoved (act_by c' j bytes s table path)
    unfolding act_by
    act_alike =
        let v = seen j bytes s.current in
        by_test unmoved (at_goal j bytes s.current) refl
        (by_test unmoved (empty_ring j bytes v v.last) refl (learn_alike v (new_figure j bytes v table) (target j bytes v table)))

    -- a decision: answer, target, rise, state, table and path
    pub decisions_alike : (moves : List ℕ) (from : ℕ) → unmoved_call (decide_by c j bytes s table path moves from) ≡ unmoved_call (decide_by c' j bytes s table path moves from)
    unfolding decide_by
    decisions_alike moves from = by (judge j bytes s table path (length moves) from)
      where
        by : (v : Verdict) → unmoved_call (outcome_of v (act_by c j bytes s table path) s table path moves from)
            ≡ unmoved_call (outcome_of v (act_by c' j bytes s table path) s table path moves from)
        by (Ok _) = ap (λ (d : Deed). record { answer = d.answer; state = d.state; table = d.table; path = d.path; moves = [] }) act_alike
        by (Err r) = refl

  next_alike : (r r' : Ride) → unmoved_ride r ≡ unmoved_ride r' → unmoved_ride (next_by c j bytes r) ≡ unmoved_ride (next_by c' j bytes r')
  unfolding next_by
  next_alike r r' e =
      ap (ridden (unmoved_ride r)) (act_alike r.state r.table r.path)
      ∙ ap (λ q. ridden q (unmoved (act_by c' j bytes q.state q.table q.path))) e

  rides_alike : (n : ℕ) (r r' : Ride) → unmoved_ride r ≡ unmoved_ride r' → unmoved_ride (ride_from_by c j bytes n r) ≡ unmoved_ride (ride_from_by c' j bytes n r')
  unfolding ride_from_by
  rides_alike zero r r' e = e
  rides_alike (suc n) r r' e =
      by_test unmoved_ride (at_goal j bytes r.state.current) e (rides_alike n (next_by c j bytes r) (next_by c' j bytes r') (next_alike r r' e))
      ∙ ap (λ q. unmoved_ride (elim (at_goal j bytes q.state.current) [ true ↦ r' | false ↦ ride_from_by c' j bytes n (next_by c' j bytes r') ])) e

  module _ (start : ℕ) where
    -- a trial: state, table, path, decisions, learned amount and travel
    pub ride_alike : (table path : List ℕ) → unmoved_ride (ride_by c j bytes start table path) ≡ unmoved_ride (ride_by c' j bytes start table path)
    unfolding ride_by
    ride_alike table path = rides_alike (bound j bytes table) (begun start table path) (begun start table path) refl

    -- and the kept cost: all that the public call answers and leaves
    pub trials_same : (table path : List ℕ) → trial_by c j bytes start table path ≡ trial_by c' j bytes start table path
    unfolding trial_by kept
    trials_same table path = by (open_trial j bytes start table path)
      where
        by : (v : Verdict) → trial_of v j bytes (ride_by c j bytes start table path) table path ≡ trial_of v j bytes (ride_by c' j bytes start table path) table path
        by (Ok _) = ap (λ r. trial_of (Ok tt) j bytes r table path) (ride_alike table path)
        by (Err r) = refl

    -- a course whose first trial was q
    abbrev after : Choice → ℕ → Ride → Course
    after d k q =
        let o = course_from_by d j bytes start k q.table q.path in
        elim (eqb q.learned 0) [
          | true ↦ record { rides = q ∷ []; settled = true; table = q.table; path = q.path }
          | false ↦ record { rides = q ∷ o.rides; settled = o.settled; table = o.table; path = o.path }
        ]

    courses_alike : (trials : ℕ) (table path : List ℕ)
        → unmoved_course (course_from_by c j bytes start trials table path) ≡ unmoved_course (course_from_by c' j bytes start trials table path)
    unfolding course_from_by
    courses_alike zero table path = refl
    courses_alike (suc k) table path =
        by_test unmoved_course (eqb (ride_by c j bytes start table path).learned 0) refl
        (ap (λ (o : Course). record { rides = unmoved_ride (ride_by c j bytes start table path) ∷ o.rides; settled = o.settled; table = o.table; path = o.path })
        (courses_alike k (ride_by c j bytes start table path).table (ride_by c j bytes start table path).path))
        ∙ ap (λ q. unmoved_course (after c' k q)) (ride_alike table path)
        ∙ by_test unmoved_course (eqb (ride_by c' j bytes start table path).learned 0) refl refl

    -- a run: all that the public call answers and leaves, the reports among it
    pub runs_same : (trials : ℕ) (table path : List ℕ) (reports : List Report)
        → run_by c j bytes start trials table path reports ≡ run_by c' j bytes start trials table path reports
    unfolding run_by
    runs_same trials table path reports = by (open_run j bytes start table path trials (length reports))
      where
        by : (v : Verdict) → run_of v j bytes (course_from_by c j bytes start trials table path) table path reports
            ≡ run_of v j bytes (course_from_by c' j bytes start trials table path) table path reports
        by (Ok _) =
            told j bytes (course_from_by c j bytes start trials table path) table path reports
            ∙ ap (λ o. run_of (Ok tt) j bytes o table path reports) (courses_alike trials table path)
            ∙ sym (told j bytes (course_from_by c' j bytes start trials table path) table path reports)
        by (Err r) = refl

-- ---- two choices of routes that cost w

-- from a cell of the floor that is no goal, to each cell of its window: a walk of the window that costs w
abbrev pub Cheapest : Job → List ℕ → Choice → Type 0
Cheapest j bytes c = (s : ℕ) (deep : 1 ≤ j.depth) (floor : s < size (floor_of j bytes)) (aside : at_goal j bytes s ≡ false) → j.depth ≤ deepest
    → (x : ℕ) → InWindow j bytes s deep floor aside x → Chain (net j bytes) (InWindow j bytes s deep floor aside) s (c s x) x (w j bytes (seen j bytes s) x)

-- document 01's own: "each time the lowest-numbered window cell from which one allowed move, added to its w, gives exactly the w of the cell reached"
abbrev pub first_route : Job → List ℕ → Choice
first_route j bytes s x = route_of (ground_in j bytes) j.depth s x

pub first_cheapest : (j : Job) (bytes : List ℕ) → Cheapest j bytes (first_route j bytes)
unfolding ring_of last_of leg_of
first_cheapest j bytes s deep floor aside shallow x h = route-chain (ground_in j bytes) j.depth s deep floor (λ g. subst T aside g) x h

pub route-cheapest : (j : Job) (bytes : List ℕ) → Cheapest j bytes (route j bytes)
route-cheapest j bytes s deep floor aside shallow x h = (route_means j bytes s deep floor aside shallow x h).0
