-- A ride from an accepted job is a trial of `learning` that comes to a goal, and its counts are the trial's.
-- What holds while it rides is one record, `Riding`: kept by each decision, while `learning`'s potential falls.
use Prim.Native.Nat.{ℕ, zero, suc, ◌+◌, ◌-◌, ◌*◌, ◌/◌, ◌≤◌, ◌<◌}
use mathlib.Core.Path.{◌≡◌, refl, sym, ap, ◌∙◌, subst}
use mathlib.Core.Bool.{Bool, true, false}
use mathlib.Core.List.{List, [], ◌∷◌}
use native.Mathlib.Nat.{le_refl, le_trans, mul-le-mul, mul-le-mul_left, mul-le-mul_right, div-mul-le_self}
use native.Mathlib.Omega.{arith}
use lib.Dec.{T, eqb}
use lib.ListN.{length, get_or}
use Rattle.learning.specs.Trial as learning
use Rattle.learning.specs.Trial.{opened, truth, left, unit, factor}
use Rattle.learning.specs.Path.{most}
use Rattle.learning.specs.Ground.{reach_of}
use Rattle.learning.proofs.Sums.{total-high, most_low}
use Rattle.learning.proofs.Ground.{reach-true, reach_of_lem}
use Rattle.learning.proofs.Ceiling.{truth-high}
use Rattle.learning.proofs.Trials.{Keeps, keeps-opened, keeps-trial, trial_on}
use Rattle.learning.proofs.Bounds.{potential, step_falls, potential-opened, trial-learns, stays-sound, decisions-bound, kept-bound}
use Rattle.learning.proofs.Travel.{trial-cost}
use Rattle.answers.specs.declared.Job.{Job}
use Rattle.std.specs.Prelude.{Ok}
use Rattle.model.specs.Floor.{size, least_price, dearest_price}
use Rattle.model.specs.Checks.{ceiling, floor_of, ground_in, farthest, finest, largest_quota}
use Rattle.model.specs.Decision.{at_goal, judge, act, least_room}
use Rattle.model.specs.Ride.{Ride, begun, next, next_by, ride_from, ride_from_by, learning_job, bound, ride, ride_by, kept, Course, course_from, course_from_by}
use Rattle.model.specs.Opening.{open_trial}
use Rattle.model.proofs.Openings.{Held, Ready, accepted-trial}
use Rattle.model.proofs.Judged.{judged}
use Rattle.model.proofs.Steps.{as_state, Does, act_does, new_fits, stored-fits, size-high, dear}
use Rattle.model.specs.Lookahead.{dearest_leg}

-- ---- what a trial's counts come to at most

-- each of 4,096 figures rises from 0 to the ceiling
abbrev pub most_learned : ℕ
most_learned = 4096 * ceiling

-- K × (R + 1)
abbrev pub most_decisions : ℕ
most_decisions = suc (ceiling / least_price) * (most_learned + 1)

-- (cheapest distance from the start + quota) × q / p
abbrev pub dearest_kept : ℕ
dearest_kept = finest * (farthest + largest_quota)

-- ---- a ride, decision by decision

module _ (j : Job) (bytes : List ℕ) where
  pub ride_there : (n : ℕ) (r : Ride) → at_goal j bytes r.state.current ≡ true → ride_from j bytes n r ≡ r
  unfolding ride_from_by
  ride_there zero r e = refl
  ride_there (suc n) r e = rw (e, ride_from_by)

  pub ride_on : (n : ℕ) (r : Ride) → at_goal j bytes r.state.current ≡ false → ride_from j bytes (suc n) r ≡ ride_from j bytes n (next j bytes r)
  unfolding ride_from_by
  ride_on n r e = rw (e, ride_from_by)

-- where a ride stands, as `learning` has it
abbrev pub standing : Ride → learning.State
standing r = as_state r.state r.table r.path

-- what holds of a ride from its start: it is a trial so far, its figures are within the ceiling, and the path list is as long as lent
pub record Riding (j : Job) (bytes : List ℕ) (start : ℕ) (table path : List ℕ) (r : Ride) : Type 0 where
  pub made : learning.Trial (learning_job j bytes) (opened start table) r.decisions r.learned r.travel (standing r)
  pub fits : (x : ℕ) → x < size (floor_of j bytes) → get_or r.table x 0 ≤ ceiling
  pub places : length r.path ≡ length path

-- what bounds the decisions still to come
abbrev pub yet : Job → List ℕ → Ride → ℕ
yet j bytes r = potential (learning_job j bytes) (standing r)

-- the rest of a ride
abbrev pub rest : Job → List ℕ → Ride → Ride
rest j bytes r = ride_from j bytes (suc (yet j bytes r)) r

module _ (j : Job) (bytes : List ℕ) (start : ℕ) (table path : List ℕ) (R : Ready j bytes start table path) where
  abbrev J : learning.Job
  J = learning_job j bytes

  abbrev H : Held j bytes
  H = R.opened.held

  pub riding_begun : Riding j bytes start table path (begun start table path)
  riding_begun = record { made = learning.none; fits = R.opened.fits; places = refl }

  module _ {r : Ride} (g : Riding j bytes start table path r) where
    pub keeps : Keeps J start (standing r)
    keeps = keeps-trial H.lawful g.made (keeps-opened H.lawful start table R.opened.sound R.opened.reach)

    pub room : size (floor_of j bytes) ≤ length r.path
    room = omega (arith, g.places, R.room)

    -- a decision call would be let through
    pub judges : (places from : ℕ) → from + least_room ≤ places → judge j bytes r.state r.table r.path places from ≡ Ok tt
    judges = judged j bytes H r.state r.table r.path keeps room g.fits

    module _ (aside : at_goal j bytes r.state.current ≡ false) where
      pub does : Does j bytes r.state r.table r.path (act j bytes r.state r.table r.path)
      does = act_does j bytes H r.state r.table r.path keeps room aside

      pub riding_next : Riding j bytes start table path (next j bytes r)
      unfolding next_by
      riding_next = record {
        made = trial_on g.made does.step;
        fits = λ x h. subst (λ t. get_or t x 0 ≤ ceiling) (sym does.stores)
            (stored-fits r.table r.state.current _ ceiling (λ l. new_fits j bytes H r.state r.table r.path keeps room aside)
            (λ y l. g.fits y (omega (arith, keeps.sound.size))) x (omega (arith, keeps.sound.size)));
        places = does.places ∙ g.places;
      }

      pub falls : yet j bytes (next j bytes r) < yet j bytes r
      unfolding next_by
      falls = step_falls H.lawful does.step keeps

  -- after any number of decisions
  pub riding_from : (n : ℕ) (r : Ride) → Riding j bytes start table path r → Riding j bytes start table path (ride_from j bytes n r)
  unfolding ride_from_by
  riding_from zero r g = g
  riding_from (suc n) r g = by (at_goal j bytes r.state.current) refl (riding_from n)
    where
      by : (b : Bool) → at_goal j bytes r.state.current ≡ b → ((q : Ride) → Riding j bytes start table path q → Riding j bytes start table path (ride_from j bytes n q))
          → Riding j bytes start table path (ride_from j bytes (suc n) r)
      by true e more = subst (Riding j bytes start table path) (sym (ride_there j bytes (suc n) r e)) g
      by false e more = subst (Riding j bytes start table path) (sym (ride_on j bytes n r e)) (more (next j bytes r) (riding_next g e))

  -- ---- it comes to a goal

  -- with enough decisions allowed
  arrives : (n : ℕ) (r : Ride) → Riding j bytes start table path r → yet j bytes r < n
      → Riding j bytes start table path (ride_from j bytes n r) × (at_goal j bytes (ride_from j bytes n r).state.current ≡ true)
  arrives zero r g h = absurd (omega arith)
  arrives (suc n) r g h = by (at_goal j bytes r.state.current) refl (arrives n)
    where
      Ends : Ride → Type 0
      Ends q = Riding j bytes start table path q × (at_goal j bytes q.state.current ≡ true)

      by : (b : Bool) → at_goal j bytes r.state.current ≡ b → ((q : Ride) → Riding j bytes start table path q → yet j bytes q < n → Ends (ride_from j bytes n q))
          → Ends (ride_from j bytes (suc n) r)
      by true e more = subst Ends (sym (ride_there j bytes (suc n) r e)) (g, e)
      by false e more = subst Ends (sym (ride_on j bytes n r e)) (more (next j bytes r) (riding_next g e) (omega (arith, falls g e)))

  -- and more of them change nothing
  enough : (n m : ℕ) (r : Ride) → Riding j bytes start table path r → yet j bytes r < n → yet j bytes r < m → ride_from j bytes n r ≡ ride_from j bytes m r
  enough zero m r g h i = absurd (omega arith)
  enough (suc n) zero r g h i = absurd (omega arith)
  enough (suc n) (suc m) r g h i = by (at_goal j bytes r.state.current) refl (enough n m)
    where
      by : (b : Bool) → at_goal j bytes r.state.current ≡ b
          → ((q : Ride) → Riding j bytes start table path q → yet j bytes q < n → yet j bytes q < m → ride_from j bytes n q ≡ ride_from j bytes m q)
          → ride_from j bytes (suc n) r ≡ ride_from j bytes (suc m) r
      by true e more = ride_there j bytes (suc n) r e ∙ sym (ride_there j bytes (suc m) r e)
      by false e more =
          let f = falls g e in
          ride_on j bytes n r e ∙ more (next j bytes r) (riding_next g e) (omega arith) (omega arith) ∙ sym (ride_on j bytes m r e)

  begun-low : yet j bytes (begun start table path) < bound j bytes table
  unfolding bound
  begun-low = potential-opened H.lawful start table R.opened.sound R.opened.reach

  pub ride_riding : Riding j bytes start table path (ride j bytes start table path)
  unfolding ride_by
  ride_riding = (arrives (bound j bytes table) (begun start table path) riding_begun begun-low).0

  pub ride_arrives : at_goal j bytes (ride j bytes start table path).state.current ≡ true
  unfolding ride_by
  ride_arrives = (arrives (bound j bytes table) (begun start table path) riding_begun begun-low).1

  -- for a loop: the whole ride is the rest of what has begun, and the rest stays the same until it is all there is
  pub rest-begun : ride j bytes start table path ≡ rest j bytes (begun start table path)
  unfolding ride_by
  rest-begun = enough (bound j bytes table) _ (begun start table path) riding_begun begun-low (omega arith)

  pub rest_next : {r : Ride} → Riding j bytes start table path r → at_goal j bytes r.state.current ≡ false → rest j bytes r ≡ rest j bytes (next j bytes r)
  rest_next {r} g e = ride_on j bytes (yet j bytes r) r e ∙ enough (yet j bytes r) _ (next j bytes r) (riding_next g e) (falls g e) (omega arith)

  -- ---- how great its counts can be

  truth-low : (x : ℕ) → truth J x ≤ ceiling
  truth-low x = by (reach_of (ground_in j bytes) x) refl
    where
      far : dearest_price * (size (floor_of j bytes) - 1) ≤ farthest
      far = omega (arith, size-high j bytes H)

      by : (b : Bool) → reach_of (ground_in j bytes) x ≡ b → truth J x ≤ ceiling
      by true e =
          le_trans (truth-high H.lawful dearest_price (dear j bytes H) x (reach-true (ground_in j bytes) x (subst T (sym e) tt))) (mul-le-mul H.settings.fine far)
      by false e = omega (arith, ap (λ (d : ℕ). j.q * d) (H.lawful.no_dist x (λ r. subst T e (reach_of_lem (ground_in j bytes) x r))))

  left-low : left J table ≤ most_learned
  left-low =
      le_trans (total-high J.cells ceiling (λ x. truth J x - get_or table x 0) (λ x. omega (arith, truth-low x)))
      (mul-le-mul (size-high j bytes H) (le_refl ceiling))

  factor-low : factor J ≤ suc (ceiling / least_price)
  factor-low =
      let m = most J.cells (truth J) in
      let u : least_price ≤ unit J = omega (arith, H.settings.light) in
      omega (arith, div-mul-le_self m (unit J), mul-le-mul_left (m / unit J) u, most_low J.cells ceiling (truth J) truth-low)

  bound-low : bound j bytes table ≤ most_decisions
  unfolding bound
  bound-low = let few : left J table + 1 ≤ most_learned + 1 = omega (arith, left-low) in mul-le-mul factor-low few

  module _ {r : Ride} (g : Riding j bytes start table path r) where
    pub decisions-low : r.decisions < bound j bytes table
    unfolding bound
    decisions-low = decisions-bound H.lawful R.opened.sound R.opened.reach g.made

    learned-low : r.learned ≤ most_learned
    learned-low = omega (arith, left-low, trial-learns H.lawful g.made (keeps-opened H.lawful start table R.opened.sound R.opened.reach))

    travel-low : r.travel ≤ dearest_leg * r.decisions
    travel-low =
        let far : dearest_price * j.depth ≤ dearest_leg = omega (arith, H.settings.shallow) in
        let most = trial-cost H.lawful dearest_price (dear j bytes H) g.made (keeps-opened H.lawful start table R.opened.sound R.opened.reach) in
        omega (arith, most, mul-le-mul_left r.decisions far)

    pub kept_low : kept j bytes r ≤ dearest_kept
    unfolding kept
    kept_low =
        omega (
          arith,
          kept-bound H.lawful R.opened.sound R.opened.reach g.made,
          mul-le-mul_right (kept j bytes r) H.settings.light,
          truth-low start,
          mul-le-mul H.settings.fine H.settings.within,
        )

    -- so each fits in 64 bits
    pub counts_fit : (r.decisions < most_decisions) × (r.learned ≤ most_learned) × (r.travel < dearest_leg * most_decisions)
    counts_fit = (omega (arith, decisions-low, bound-low), learned-low, omega (arith, travel-low, decisions-low, bound-low))

  -- ---- what it leaves is accepted again

  pub ready_after : Ready j bytes start (ride j bytes start table path).table (ride j bytes start table path).path
  ready_after =
      let g = ride_riding in
      let S = stays-sound H.lawful R.opened.sound R.opened.reach g.made in
      record {
        opened = record {
          held = H;
          long = S.size;
          free-start = R.opened.free-start;
          fits = g.fits;
          sound = S;
          reach = R.opened.reach;
        };
        room = room g;
      }

-- ---- a run's trials

-- rides one after another, each from what the one before it left, and each accepted as a trial
pub data Rides (j : Job) (bytes : List ℕ) (start : ℕ) : List ℕ → List ℕ → List Ride → Type 0 where
  over : {table path : List ℕ} → Rides j bytes start table path []
  trip : {table path : List ℕ} {rs : List Ride} → open_trial j bytes start table path ≡ Ok tt
      → Rides j bytes start (ride j bytes start table path).table (ride j bytes start table path).path rs
      → Rides j bytes start table path (ride j bytes start table path ∷ rs)

module _ (j : Job) (bytes : List ℕ) (start : ℕ) where
  pub course_none : (table path : List ℕ) → course_from j bytes start 0 table path ≡ record { rides = []; settled = false; table = table; path = path }
  unfolding course_from_by
  course_none table path = refl

  pub course_settled : (k : ℕ) (table path : List ℕ) → eqb (ride j bytes start table path).learned 0 ≡ true
      → course_from j bytes start (suc k) table path
      ≡ record { rides = ride j bytes start table path ∷ []; settled = true; table = (ride j bytes start table path).table; path = (ride j bytes start table path).path }
  unfolding course_from_by
  course_settled k table path e = rw (e, course_from_by)

  -- a course after its first ride
  abbrev with_ride : Ride → Course → Course
  with_ride r c = record { rides = r ∷ c.rides; settled = c.settled; table = c.table; path = c.path }

  pub course_again : (k : ℕ) (table path : List ℕ) → eqb (ride j bytes start table path).learned 0 ≡ false
      → course_from j bytes start (suc k) table path
      ≡ with_ride (ride j bytes start table path) (course_from j bytes start k (ride j bytes start table path).table (ride j bytes start table path).path)
  unfolding course_from_by
  course_again k table path e = rw (e, course_from_by)

  pub course_rides : (trials : ℕ) (table path : List ℕ) → Ready j bytes start table path → Rides j bytes start table path (course_from j bytes start trials table path).rides
  unfolding course_from_by
  course_rides zero table path R = over
  course_rides (suc k) table path R = by (eqb (ride j bytes start table path).learned 0) refl (course_rides k)
    where
      by : (b : Bool) → eqb (ride j bytes start table path).learned 0 ≡ b
          → ((t p : List ℕ) → Ready j bytes start t p → Rides j bytes start t p (course_from j bytes start k t p).rides)
          → Rides j bytes start table path (course_from j bytes start (suc k) table path).rides
      by true e more = subst (λ c. Rides j bytes start table path c.rides) (sym (course_settled k table path e)) (trip (accepted-trial j bytes start table path R) over)
      by false e more = subst (λ c. Rides j bytes start table path c.rides) (sym (course_again k table path e))
          (trip (accepted-trial j bytes start table path R) (more _ _ (ready_after j bytes start table path R)))
