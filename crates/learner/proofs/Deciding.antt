-- The decision call made where an accepted trial stands: it is let through, it is the trial's next decision, and it hands out that decision's moves.
-- Wherever a ride stands its checks hold (`judges` of Rides), so the call is the ride's own `act`.
use Prim.Native.Nat.{ℕ, zero, suc, ◌+◌, ◌-◌, ◌*◌, ◌≤◌, ◌<◌}
use mathlib.Core.Path.{◌≡◌, refl, sym, ap, ap₂, ◌∙◌, subst}
use mathlib.Core.Bool.{Bool, true, false}
use mathlib.Core.List.{List, [], ◌++◌}
use native.Mathlib.Numerals.{add-one}
use native.Mathlib.Decide.{dec_le}
use native.Mathlib.Omega.{arith}
use lib.ListN.{length, take, drop}
use lib.Seq.{length-take-le, take_at, drop_at}
use Rattle.learning.proofs.Trials.{Keeps}
use Rattle.answers.specs.declared.Job.{Job}
use Rattle.answers.specs.declared.State.{State}
use Rattle.answers.specs.declared.Decided.{Decided}
use Rattle.answers.specs.declared.Refusal.{Refusal}
use Rattle.answers.specs.declared.Answer.{Answer}
use Rattle.answers.specs.declared.Answer.TheVariants as A
use Rattle.std.specs.Prelude.{Ok}
use Rattle.answers.proofs.One.{answer_one}
use Rattle.model.specs.Basics.{member}
use Rattle.model.specs.Floor.{size}
use Rattle.model.specs.Checks.{floor_of, goals}
use Rattle.model.specs.Decision.{at_goal, Deed, rise, forward_by, back_out_by, stay, act, laid, outcome_of, decide, least_room}
use Rattle.model.specs.Ride.{Ride, begun, next, ride_from, ride_from_by, learning_job, bound, ride, ride_by}
use Rattle.model.proofs.Accepted.{fails}
use Rattle.model.proofs.Openings.{Held, Ready}
use Rattle.model.proofs.Benches.{goal-free, at_goal_lem}
use Rattle.model.proofs.Cases.{act-arrived, decide_acts}
use Rattle.model.proofs.Steps.{as_state, new_here, Says, went, backed, stayed, act-forward, act-back, act-stay}
use Rattle.model.proofs.Rides.{Riding, riding_begun, riding_from, keeps, room as room_for, judges, does, decisions-low, ride_there, ride_on}
use Rattle.decision.specs.Ready.{Decides}

-- the moves that an answer hands out: as many as it says, from the place named on
abbrev pub handed : Answer → (from : ℕ) → (moves : List ℕ) → List ℕ
handed A.Arrived from moves = []
handed (A.Forward target rise n) from moves = take n (drop from moves)
handed (A.BackedOut target rise n) from moves = take n (drop from moves)
handed (A.Stayed rise) from moves = []
handed (A.Refused r) from moves = []

-- what a trial's decision hands out is its way, laid into the lent list
laid_hands : (moves : List ℕ) (from : ℕ) (way : List ℕ) → from ≤ length moves → take (length way) (drop from (laid moves from way)) ≡ way
laid_hands moves from way h =
    ap (take (length way)) (drop_at (take from moves) (way ++ drop (from + length way) moves) from (length-take-le from moves h)) ∙ take_at way (drop (from + length way) moves) (length way) refl

module _ (j : Job) (bytes : List ℕ) (H : Held j bytes) {start : ℕ} (s : State) (table path : List ℕ) (k : Keeps (learning_job j bytes) start (as_state s table path))
    (room : size (floor_of j bytes) ≤ length path) (aside : at_goal j bytes s.current ≡ false) (moves : List ℕ) (from : ℕ) (h : from ≤ length moves) where
  deed_hands : handed (act j bytes s table path).answer from (laid moves from (act j bytes s table path).way) ≡ (act j bytes s table path).way
  unfolding forward_by back_out_by stay
  deed_hands = by (dec_le (s.learned + rise table s.current (new_here j bytes s table)) (j.q * j.quota)) (dec_le 1 s.length)
    where
      Hands : Deed → Type 0
      Hands d = handed d.answer from (laid moves from d.way) ≡ d.way

      by : Dec (s.learned + rise table s.current (new_here j bytes s table) ≤ j.q * j.quota) → Dec (1 ≤ s.length) → Hands (act j bytes s table path)
      by (yes g) l = subst Hands (sym (act-forward j bytes H s table path k room aside g)) (laid_hands moves from _ h)
      by (no g) (yes l) = subst Hands (sym (act-back j bytes H s table path k room aside (omega arith) l)) (laid_hands moves from _ h)
      by (no g) (no l) = subst Hands (sym (act-stay j bytes H s table path k room aside (omega arith) (omega arith))) refl

-- rides one after another are one ride
ride-add : (j : Job) (bytes : List ℕ) (n k : ℕ) (r : Ride) → ride_from j bytes (n + k) r ≡ ride_from j bytes k (ride_from j bytes n r)
unfolding ride_from_by
ride-add j bytes zero k r = let same : 0 + k ≡ k = omega arith in ap (λ m. ride_from j bytes m r) same
ride-add j bytes (suc n) k r = by (at_goal j bytes r.state.current) refl (ride-add j bytes n k)
  where
    more : suc n + k ≡ suc (n + k)
    more = omega arith

    by : (b : Bool) → at_goal j bytes r.state.current ≡ b → ((q : Ride) → ride_from j bytes (n + k) q ≡ ride_from j bytes k (ride_from j bytes n q))
        → ride_from j bytes (suc n + k) r ≡ ride_from j bytes k (ride_from j bytes (suc n) r)
    by true e h = ride_there j bytes (suc n + k) r e ∙ sym (ap (ride_from j bytes k) (ride_there j bytes (suc n) r e) ∙ ride_there j bytes k r e)
    by false e h = ap (λ m. ride_from j bytes m r) more ∙ ride_on j bytes (n + k) r e ∙ h (next j bytes r) ∙ sym (ap (ride_from j bytes k) (ride_on j bytes n r e))

-- the ride after n decisions
abbrev pub after : Job → List ℕ → (start : ℕ) → (table path : List ℕ) → ℕ → Ride
after j bytes start table path n = ride_from j bytes n (begun start table path)

module _ (j : Job) (bytes : List ℕ) (start : ℕ) (table path : List ℕ) (ready : Ready j bytes start table path) (n : ℕ) where
  abbrev here : Ride
  here = after j bytes start table path n

  riding : Riding j bytes start table path here
  riding = riding_from j bytes start table path ready n (begun start table path) (riding_begun j bytes start table path ready)

  pub few : here.decisions < bound j bytes table
  few = decisions-low j bytes start table path ready riding

  -- at a bench it is at a goal; and where it has made n decisions it is the whole ride
  pub at_bench : member here.state.current (goals j) ≡ true → at_goal j bytes here.state.current ≡ true
  at_bench h = at_goal_lem j bytes here.state.current (goal-free (floor_of j bytes) (goals j) ready.opened.held.benches here.state.current h) ∙ h

  pub whole : here.decisions ≡ n → at_goal j bytes here.state.current ≡ true → here ≡ ride j bytes start table path
  unfolding ride_by
  whole count g =
      let k = bound j bytes table - n in
      let enough : n + k ≡ bound j bytes table = omega (arith, few) in
      sym (ap (after j bytes start table path) (sym enough) ∙ ride-add j bytes n k (begun start table path) ∙ ride_there j bytes k here g)

  -- the ride's next decision
  abbrev pub deed : Deed
  deed = act j bytes here.state here.table here.path

  module _ {r : Decided} {t p m : List ℕ} (moves : List ℕ) (from : ℕ) (room : from + least_room ≤ length moves)
      (h : Decides (decide j bytes here.state here.table here.path moves from) r t p m) where
    -- the call is let through
    pub acts : Decides (outcome_of (Ok tt) deed here.state here.table here.path moves from) r t p m
    acts = subst (λ o. Decides o r t p m) (decide_acts j bytes here.state here.table here.path moves from (judges j bytes start table path ready riding (length moves) from room)) h

    pub answers : r.answer ≡ deed.answer
    answers = answer_one r.answer deed.answer acts.answer

    -- at a goal it answers that it has arrived, and elsewhere neither that nor a refusal
    pub arrives : at_goal j bytes here.state.current ≡ true → r.answer ≡ A.Arrived
    arrives g = answers ∙ ap (λ d. d.answer) (act-arrived j bytes here.state here.table here.path g)

    pub goes : at_goal j bytes here.state.current ≡ false → ((x : Refusal) → r.answer ≡ A.Refused x → ⊥) × (r.answer ≡ A.Arrived → ⊥)
    goes g = by (does j bytes start table path ready riding g).says
      where
        by : Says deed → ((x : Refusal) → r.answer ≡ A.Refused x → ⊥) × (r.answer ≡ A.Arrived → ⊥)
        by (went k) = (λ x q. let z : ◌≡◌ {A = ℕ} 0 1 = cc answers in omega arith, λ q. let z : ◌≡◌ {A = ℕ} 0 1 = cc answers in omega arith)
        by (backed k) = (λ x q. let z : ◌≡◌ {A = ℕ} 0 1 = cc answers in omega arith, λ q. let z : ◌≡◌ {A = ℕ} 0 1 = cc answers in omega arith)
        by (stayed k) = (λ x q. let z : ◌≡◌ {A = ℕ} 0 1 = cc answers in omega arith, λ q. let z : ◌≡◌ {A = ℕ} 0 1 = cc answers in omega arith)

    -- one that does not answer that it has arrived is the ride's next decision, and hands out its moves
    module _ (not : r.answer ≡ A.Arrived → ⊥) where
      aside : at_goal j bytes here.state.current ≡ false
      aside = fails (at_goal j bytes here.state.current) (λ g. not (arrives g))

      pub goes_on : after j bytes start table path (suc n) ≡ next j bytes here
      unfolding ride_from_by
      goes_on = ap (after j bytes start table path) (sym (add-one n)) ∙ ride-add j bytes n 1 (begun start table path) ∙ ride_on j bytes 0 here aside

      pub hands : handed r.answer from m ≡ deed.way
      hands =
          ap₂ (λ a ms. handed a from ms) answers acts.moves
          ∙ deed_hands j bytes ready.opened.held here.state here.table here.path (keeps j bytes start table path ready riding) (room_for j bytes start table path ready riding) aside
          moves from (omega (arith, room))
