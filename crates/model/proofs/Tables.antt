-- What a decision does to the table, from whatever state: no figure falls, and a sound table stays sound.
-- It touches the current cell's figure alone, and only to store a greater one, which is no greater than the true one.
use Prim.Native.Nat.{ℕ, zero, suc, ◌+◌, ◌-◌, ◌*◌, ◌≤◌, ◌<◌}
use mathlib.Core.Path.{◌≡◌, refl, sym, ap, ◌∙◌, subst}
use mathlib.Core.Logic.{◌⊎◌, inl, inr}
use mathlib.Core.Bool.{Bool, true, false, ◌&&◌}
use mathlib.Core.List.{List}
use native.Mathlib.Decide.{ℕ_discrete, dec_le}
use native.Mathlib.Omega.{arith}
use borrow.Author.Tests.{ltb-true, ltb-false, lt-ltb}
use lib.Dec.{T, ltb, leb, eqb}
use lib.ListN.{length, get_or, set, length-set}
use lib.Seq.{get_or-set_same, get_or-set_other, set_out}
use Rattle.learning.specs.Trial.{CanReach, Sound, truth}
use Rattle.learning.specs.Ground.{reach_of}
use Rattle.learning.proofs.Ground.{reach_of_lem, reach-true}
use Rattle.learning.proofs.Look.{answer}
use Rattle.learning.proofs.Decision.{raised-sound}
use Rattle.answers.specs.declared.Job.{Job}
use Rattle.answers.specs.declared.State.{State}
use Rattle.answers.specs.Outcomes.{Verdict}
use Rattle.std.specs.Prelude.{Ok, Err}
use Rattle.model.specs.Basics.{choose}
use Rattle.model.specs.Checks.{ceiling, ground_in}
use Rattle.model.specs.Lookahead.{seen, ring, empty_ring}
use Rattle.model.specs.Decision.{Deed, at_goal, rise, stored, forward_by, back_out_by, stay, go_back, act, outcome_of, judge, decide, decide_by}
use Rattle.model.specs.Ride.{Ride, begun, next, next_by, ride_from, ride_from_by, learning_job, bound, ride, ride_by, Course, course_from, course_from_by}
use Rattle.model.proofs.Openings.{Held, Opened, Ready, second-false}
use Rattle.model.proofs.Cases.{act-arrived, act_blind, act-learns, learn_over, learn-forward, learn-back, back-stays, back_lost, back-goes}
use Rattle.model.proofs.Steps.{new_here, target_here, stored-raised, stored-fits}
use Rattle.model.proofs.Rides.{ride_there, ride_on, ready_after, course_settled, course_again}

stored-high : (table : List ℕ) (s new x : ℕ) → get_or table x 0 ≤ get_or (stored table s new) x 0
stored-high table s new x = by (ltb (get_or table s 0) new) refl (ℕ_discrete x s) (dec_le (length table) s)
  where
    by : (b : Bool) → ltb (get_or table s 0) new ≡ b → Dec (x ≡ s) → Dec (length table ≤ s) → get_or table x 0 ≤ get_or (choose b (set table s new) table) x 0
    by true e (yes q) (yes h) = omega (arith, ap (λ (t : List ℕ). get_or t x 0) (set_out table s new h))
    by true e (yes q) (no h) =
        omega (
          arith,
          ltb-true (get_or table s 0) new e,
          ap (λ (y : ℕ). get_or table y 0) q,
          ap (λ (y : ℕ). get_or (set table s new) y 0) q,
          get_or-set_same table s new 0 (omega arith),
        )
    by true e (no q) h = omega (arith, get_or-set_other table s x new 0 q)
    by false e d h = omega arith

stored_other : (table : List ℕ) (s new x : ℕ) → (x ≡ s → ⊥) → get_or (stored table s new) x 0 ≡ get_or table x 0
stored_other table s new x other = by (ltb (get_or table s 0) new)
  where
    by : (b : Bool) → get_or (choose b (set table s new) table) x 0 ≡ get_or table x 0
    by true = get_or-set_other table s x new 0 other
    by false = refl

-- the table stays, or the lookahead's figure is stored at the current cell, which is no goal; where it is a rise, it is within the ceiling
abbrev pub Left : Job → List ℕ → State → (table after : List ℕ) → Type 0
Left j bytes s table after =
    (after ≡ table)
    ⊎ ((at_goal j bytes s.current ≡ false)
    × ((ltb (get_or table s.current 0) (new_here j bytes s table) && ltb ceiling (new_here j bytes s table)) ≡ false)
    × (after ≡ stored table s.current (new_here j bytes s table)))

module _ (j : Job) (bytes : List ℕ) (s : State) (table path : List ℕ) where
  back-table : (new : ℕ) → ((go_back j bytes s table path new).table ≡ table) ⊎ ((go_back j bytes s table path new).table ≡ stored table s.current new)
  unfolding back_out_by stay
  back-table new = by (eqb s.length 0) refl (eqb (ring j bytes (seen j bytes l) s.current) (seen j bytes l).last) refl
    where
      l : ℕ
      l = get_or path (s.length - 1) 0

      by : (a : Bool) → eqb s.length 0 ≡ a → (b : Bool) → eqb (ring j bytes (seen j bytes l) s.current) (seen j bytes l).last ≡ b
          → ((go_back j bytes s table path new).table ≡ table) ⊎ ((go_back j bytes s table path new).table ≡ stored table s.current new)
      by true e b f = inr (ap (λ d. d.table) (back-stays j bytes s table path new e))
      by false e true f = inr (ap (λ d. d.table) (back-goes j bytes s table path new e f))
      by false e false f = inl (ap (λ d. d.table) (back_lost j bytes s table path new e f))

  act-table : Left j bytes s table (act j bytes s table path).table
  unfolding forward_by
  act-table =
      by (at_goal j bytes s.current) refl (empty_ring j bytes (seen j bytes s.current) (seen j bytes s.current).last) refl
      (ltb (get_or table s.current 0) new && ltb ceiling new) refl (leb (s.learned + rise table s.current new) (j.q * j.quota)) refl
    where
      new : ℕ
      new = new_here j bytes s table

      past : {d : Deed} → act j bytes s table path ≡ d → Left j bytes s table d.table → Left j bytes s table (act j bytes s table path).table
      past e h = subst (λ d. Left j bytes s table d.table) (sym e) h

      back : at_goal j bytes s.current ≡ false → (ltb (get_or table s.current 0) new && ltb ceiling new) ≡ false
          → ((go_back j bytes s table path new).table ≡ table) ⊎ ((go_back j bytes s table path new).table ≡ stored table s.current new)
          → Left j bytes s table (go_back j bytes s table path new).table
      back e c (inl h) = inl h
      back e c (inr h) = inr (e, c, h)

      by : (a : Bool) → at_goal j bytes s.current ≡ a → (b : Bool) → empty_ring j bytes (seen j bytes s.current) (seen j bytes s.current).last ≡ b → (c : Bool)
          → (ltb (get_or table s.current 0) new && ltb ceiling new) ≡ c → (d : Bool) → leb (s.learned + rise table s.current new) (j.q * j.quota) ≡ d
          → Left j bytes s table (act j bytes s table path).table
      by true e b f c g d h = past (act-arrived j bytes s table path e) (inl refl)
      by false e true f c g d h = past (act_blind j bytes s table path e f) (inl refl)
      by false e false f true g d h =
          past (act-learns j bytes s table path e f ∙ learn_over j bytes s table path (seen j bytes s.current) new (target_here j bytes s table) g) (inl refl)
      by false e false f false g true h =
          past (act-learns j bytes s table path e f ∙ learn-forward j bytes s table path (seen j bytes s.current) new (target_here j bytes s table) g h) (inr (e, g, refl))
      by false e false f false g false h =
          past (act-learns j bytes s table path e f ∙ learn-back j bytes s table path (seen j bytes s.current) new (target_here j bytes s table) g h) (back e g (back-table new))

  pub act-high : (x : ℕ) → get_or table x 0 ≤ get_or (act j bytes s table path).table x 0
  act-high x = by act-table
    where
      by : Left j bytes s table (act j bytes s table path).table → get_or table x 0 ≤ get_or (act j bytes s table path).table x 0
      by (inl e) = omega (arith, ap (λ (t : List ℕ). get_or t x 0) e)
      by (inr (o, c, e)) = omega (arith, ap (λ (t : List ℕ). get_or t x 0) e, stored-high table s.current (new_here j bytes s table) x)

  act-sound : Held j bytes → Sound (learning_job j bytes) table → Sound (learning_job j bytes) (act j bytes s table path).table
  act-sound H S = by act-table
    where
      stay-low : ¬ CanReach (learning_job j bytes) s.current → Sound (learning_job j bytes) (stored table s.current (new_here j bytes s table))
      stay-low n = record {
        size = ap length (stored-raised table s.current (new_here j bytes s table)) ∙ length-set table s.current _ ∙ S.size;
        low = λ x r. subst (λ k. k ≤ truth (learning_job j bytes) x) (sym (stored_other table s.current (new_here j bytes s table) x (λ e. n (subst (CanReach (learning_job j bytes)) e r))))
            (S.low x r);
      }

      here : at_goal j bytes s.current ≡ false → (b : Bool) → reach_of (ground_in j bytes) s.current ≡ b
          → Sound (learning_job j bytes) (stored table s.current (new_here j bytes s table))
      here o true e =
          let r = reach-true (ground_in j bytes) s.current (subst T (sym e) tt) in
          let g : ¬ (learning_job j bytes).Goal s.current = λ t. subst T o t in
          subst (Sound (learning_job j bytes)) (sym (stored-raised table s.current (new_here j bytes s table)))
          (raised-sound H.lawful S r g
          (answer (ground_in j bytes) j.depth j.p j.q j.quota H.settings.deep H.settings.light H.settings.weight s.current table g r))
      here o false e = stay-low (λ r. subst T e (reach_of_lem (ground_in j bytes) s.current r))

      by : Left j bytes s table (act j bytes s table path).table → Sound (learning_job j bytes) (act j bytes s table path).table
      by (inl e) = subst (Sound (learning_job j bytes)) (sym e) S
      by (inr (o, c, e)) = subst (Sound (learning_job j bytes)) (sym e) (here o (reach_of (ground_in j bytes) s.current) refl)

  act-fits : ((x : ℕ) → x < length table → get_or table x 0 ≤ ceiling) → (x : ℕ) → x < length table → get_or (act j bytes s table path).table x 0 ≤ ceiling
  act-fits fits x h = by act-table
    where
      new : ℕ
      new = new_here j bytes s table

      by : Left j bytes s table (act j bytes s table path).table → get_or (act j bytes s table path).table x 0 ≤ ceiling
      by (inl e) = subst (λ t. get_or t x 0 ≤ ceiling) (sym e) (fits x h)
      by (inr (o, c, e)) =
          subst (λ t. get_or t x 0 ≤ ceiling) (sym e)
          (stored-fits table s.current new ceiling (λ l. ltb-false ceiling new (second-false (ltb (get_or table s.current 0) new) _ (lt-ltb _ _ l) c)) fits x h)

  -- so an accepted table stays accepted
  pub act-opened : {start : ℕ} → Opened j bytes start table → Opened j bytes start (act j bytes s table path).table
  act-opened o =
      let S = act-sound o.held o.sound in
      record {
        held = o.held;
        long = S.size;
        free-start = o.free-start;
        fits = λ x h. act-fits (λ y l. o.fits y (omega (arith, o.long))) x (omega (arith, o.long));
        sound = S;
        reach = o.reach;
      }

  -- the call with its checks leaves the decision's table, or the lent one
  pub decide-table : (P : List ℕ → Type 0) (moves : List ℕ) (from : ℕ) → P table → P (act j bytes s table path).table → P (decide j bytes s table path moves from).table
  unfolding decide_by
  decide-table P moves from old new = by (judge j bytes s table path (length moves) from)
    where
      by : (v : Verdict) → P (outcome_of v (act j bytes s table path) s table path moves from).table
      by (Ok _) = new
      by (Err r) = old

-- ---- so it is with a ride and a course

module _ (j : Job) (bytes : List ℕ) where
  pub ride-high : (n : ℕ) (r : Ride) (x : ℕ) → get_or r.table x 0 ≤ get_or (ride_from j bytes n r).table x 0
  unfolding ride_from_by next_by
  ride-high zero r x = omega arith
  ride-high (suc n) r x = by (at_goal j bytes r.state.current) refl (ride-high n (next j bytes r) x)
    where
      by : (b : Bool) → at_goal j bytes r.state.current ≡ b
          → get_or (act j bytes r.state r.table r.path).table x 0 ≤ get_or (ride_from j bytes n (next j bytes r)).table x 0
          → get_or r.table x 0 ≤ get_or (ride_from j bytes (suc n) r).table x 0
      by true e h = omega (arith, ap (λ (q : Ride). get_or q.table x 0) (ride_there j bytes (suc n) r e))
      by false e h = omega (arith, act-high j bytes r.state r.table r.path x, ap (λ (q : Ride). get_or q.table x 0) (ride_on j bytes n r e))

  pub course_high : (start trials : ℕ) (table path : List ℕ) (x : ℕ) → get_or table x 0 ≤ get_or (course_from j bytes start trials table path).table x 0
  unfolding course_from_by ride_by
  course_high start zero table path x = omega arith
  course_high start (suc k) table path x =
      by (eqb r.learned 0) refl (ride-high (bound j bytes table) (begun start table path) x) (course_high start k r.table r.path x)
    where
      r : Ride
      r = ride j bytes start table path

      by : (b : Bool) → eqb r.learned 0 ≡ b → get_or table x 0 ≤ get_or (ride_from j bytes (bound j bytes table) (begun start table path)).table x 0
          → get_or r.table x 0 ≤ get_or (course_from j bytes start k r.table r.path).table x 0
          → get_or table x 0 ≤ get_or (course_from j bytes start (suc k) table path).table x 0
      by true e h i = omega (arith, ap (λ (c : Course). get_or c.table x 0) (course_settled j bytes start k table path e))
      by false e h i = omega (arith, ap (λ (c : Course). get_or c.table x 0) (course_again j bytes start k table path e))

  -- and what a course leaves is accepted again
  pub course_ready : (start trials : ℕ) (table path : List ℕ) → Ready j bytes start table path
      → Ready j bytes start (course_from j bytes start trials table path).table (course_from j bytes start trials table path).path
  unfolding course_from_by
  course_ready start zero table path R = R
  course_ready start (suc k) table path R =
      by (eqb (ride j bytes start table path).learned 0) refl (ready_after j bytes start table path R)
      (course_ready start k (ride j bytes start table path).table (ride j bytes start table path).path)
    where
      by : (b : Bool) → eqb (ride j bytes start table path).learned 0 ≡ b → Ready j bytes start (ride j bytes start table path).table (ride j bytes start table path).path
          → (Ready j bytes start (ride j bytes start table path).table (ride j bytes start table path).path
          → Ready j bytes start (course_from j bytes start k (ride j bytes start table path).table (ride j bytes start table path).path).table
          (course_from j bytes start k (ride j bytes start table path).table (ride j bytes start table path).path).path)
          → Ready j bytes start (course_from j bytes start (suc k) table path).table (course_from j bytes start (suc k) table path).path
      by true e h more = subst (λ c. Ready j bytes start c.table c.path) (sym (course_settled j bytes start k table path e)) h
      by false e h more = subst (λ c. Ready j bytes start c.table c.path) (sym (course_again j bytes start k table path e)) (more h)
