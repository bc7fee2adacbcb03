-- What the lent path list held before a trial does not matter: the ride is the same but for entries of that list that it never writes.
use Prim.Native.Nat.{ℕ, zero, suc, ◌+◌, ◌-◌, ◌*◌, ◌≤◌, ◌<◌}
use mathlib.Core.Path.{◌≡◌, refl, sym, ap, ◌∙◌, subst, subst₂}
use mathlib.Core.Bool.{Bool, true, false}
use mathlib.Core.Logic.{◌⊎◌, inl, inr}
use mathlib.Core.List.{List, [], ◌∷◌, ◌++◌}
use native.Mathlib.Decide.{dec_le, ℕ_discrete}
use native.Mathlib.Omega.{arith}
use lib.ListN.{length, get_or, set, take, length-set}
use lib.Seq.{take-suc-set, take-take, get_or-take, get_or-set_same, get_or-set_other, ext_get_or}
use Rattle.learning.specs.Path.{before}
use Rattle.learning.proofs.Trials.{Keeps}
use Rattle.learning.proofs.Lent.{forward-kept}
use Rattle.answers.specs.declared.Job.{Job}
use Rattle.answers.specs.declared.State.{State}
use Rattle.model.specs.Floor.{size}
use Rattle.model.specs.Checks.{floor_of}
use Rattle.model.specs.Lookahead.{seen}
use Rattle.model.specs.Decision.{Deed, at_goal, rise, forward, forward_by, back_out, back_out_by, stay, act}
use Rattle.model.specs.Ride.{Ride, begun, ridden, next, next_by, ride_from, ride_from_by, learning_job, bound, ride, ride_by}
use Rattle.model.specs.Settling.{answer_after}
use Rattle.model.proofs.Openings.{Held, Ready}
use Rattle.model.proofs.Cases.{act-arrived}
use Rattle.model.proofs.Steps.{as_state, new_here, target_here, short, act-forward, act-back, act-stay}
use Rattle.model.proofs.Rides.{ride_there, ride_on, Riding, riding_begun, riding_next, riding_from, keeps, room, ride_riding}

-- Two path lists a and b that began as p and p'. An entry of theirs is the same in both, or was written in neither.
abbrev Entry : (p p' a b : List ℕ) → ℕ → Type 0
Entry p p' a b i = (get_or a i 0 ≡ get_or b i 0) ⊎ ((get_or a i 0 ≡ get_or p i 0) × (get_or b i 0 ≡ get_or p' i 0))

-- They have the same first n entries, those of the path, and each of the others is such an entry.
pub record Alike (p p' : List ℕ) (n : ℕ) (a b : List ℕ) : Type 0 where
  pub kept : take n a ≡ take n b
  pub long : length a ≡ length b
  pub each : (i : ℕ) → Entry p p' a b i

-- the same entry written in both
each_set : {p p' : List ℕ} {n : ℕ} {a b : List ℕ} → Alike p p' n a b → (k v : ℕ) → k < length a → (i : ℕ) → Entry p p' (set a k v) (set b k v) i
each_set {p} {p'} {n} {a} {b} L k v h i = by (ℕ_discrete i k) (L.each i)
  where
    by : Dec (i ≡ k) → Entry p p' a b i → Entry p p' (set a k v) (set b k v) i
    by (yes e) o =
        inl (subst (λ i. get_or (set a k v) i 0 ≡ get_or (set b k v) i 0) (sym e) (get_or-set_same a k v 0 h ∙ sym (get_or-set_same b k v 0 (omega (arith, L.long)))))
    by (no e) (inl o) = inl (get_or-set_other a k i v 0 e ∙ o ∙ sym (get_or-set_other b k i v 0 e))
    by (no e) (inr (o, q)) = inr (get_or-set_other a k i v 0 e ∙ o, get_or-set_other b k i v 0 e ∙ q)

-- a deed and a ride with another path list
abbrev on_list : Deed → List ℕ → Deed
on_list d path = record { answer = d.answer; state = d.state; table = d.table; path = path; rise = d.rise; way = d.way; cost = d.cost }

abbrev of_length : Deed → List ℕ → ℕ → Deed
of_length d path n = record {
  answer = d.answer;
  state = record { current = d.state.current; learned = d.state.learned; length = n };
  table = d.table;
  path = path;
  rise = d.rise;
  way = d.way;
  cost = d.cost;
}

abbrev pub with_list : Ride → List ℕ → Ride
with_list r path = record {
  state = r.state;
  table = r.table;
  path = path;
  decisions = r.decisions;
  learned = r.learned;
  travel = r.travel;
  moves = r.moves;
}

-- one decision
module _ (j : Job) (bytes : List ℕ) (H : Held j bytes) {start : ℕ} (s : State) (table : List ℕ) (p p' a b : List ℕ) (L : Alike p p' s.length a b)
    (k : Keeps (learning_job j bytes) start (as_state s table a)) (wide : size (floor_of j bytes) ≤ length a) (aside : at_goal j bytes s.current ≡ false)
  where
    k' : Keeps (learning_job j bytes) start (as_state s table b)
    k' = subst (λ xs. Keeps (learning_job j bytes) start (record { cell = s.current; used = s.learned; path = xs; table = table })) L.kept k

    wide' : size (floor_of j bytes) ≤ length b
    wide' = omega (arith, L.long)

    inside : s.length < length a
    inside = omega (arith, short j bytes H s table a k wide)

    Same : Deed → Deed → Type 0
    Same d e = (list : List ℕ) × (e ≡ on_list d list) × Alike p p' d.state.length d.path list

    abbrev written : List ℕ → List ℕ
    written path = set path s.length s.current

    abbrev cut : ℕ → List ℕ → ℕ
    cut t path = length (before t (take (suc s.length) (written path)))

    cut_same : (t : ℕ) → cut t b ≡ cut t a
    cut_same t =
        ap (λ xs. length (before t xs))
        (take-suc-set b s.length s.current (omega (arith, inside, L.long)) ∙ ap (λ xs. xs ++ s.current ∷ []) (sym L.kept) ∙ sym (take-suc-set a s.length s.current inside))

    forward_same : (new t : ℕ) → Same (forward j bytes s (seen j bytes s.current) table a new t) (forward j bytes s (seen j bytes s.current) table b new t)
    unfolding Same forward_by
    forward_same new t =
        let d = forward j bytes s (seen j bytes s.current) table a new t in (
          written b,
          ap (of_length d (written b)) (cut_same t),
          record {
            kept = forward-kept a s.length s.current t inside
                ∙ ap (λ xs. before t (xs ++ s.current ∷ [])) L.kept
                ∙ sym (forward-kept b s.length s.current t (omega (arith, inside, L.long)))
                ∙ ap (λ (m : ℕ). take m (written b)) (cut_same t);
            long = length-set a s.length s.current ∙ L.long ∙ sym (length-set b s.length s.current);
            each = each_set L s.length s.current inside;
          },
        )

    -- the path's last cell, and going back there
    abbrev last : List ℕ → ℕ
    last path = get_or path (s.length - 1) 0

    last_same : 1 ≤ s.length → last b ≡ last a
    last_same h = sym (get_or-take s.length b (s.length - 1) 0 (omega arith)) ∙ ap last (sym L.kept) ∙ get_or-take s.length a (s.length - 1) 0 (omega arith)

    abbrev back : ℕ → List ℕ → ℕ → Deed
    back new path l = back_out j bytes s (seen j bytes l) table path new l

    back_same : (new : ℕ) → 1 ≤ s.length → Same (back new a (last a)) (back new b (last b))
    unfolding Same back_out_by
    back_same new h = (
      b,
      ap (back new b) (last_same h),
      record {
        kept = sym (take-take (s.length - 1) s.length a (omega arith)) ∙ ap (take (s.length - 1)) L.kept ∙ take-take (s.length - 1) s.length b (omega arith);
        long = L.long;
        each = L.each;
      },
    )

    stay_same : (new : ℕ) → Same (stay s table a new) (stay s table b new)
    unfolding Same stay
    stay_same new = (b, refl, L)

    pub act_same : (list : List ℕ) × (act j bytes s table b ≡ on_list (act j bytes s table a) list) × Alike p p' (act j bytes s table a).state.length (act j bytes s table a).path list
    unfolding Same
    act_same = by (dec_le (s.learned + rise table s.current (new_here j bytes s table)) (j.q * j.quota)) (dec_le 1 s.length)
      where
        by : Dec (s.learned + rise table s.current (new_here j bytes s table) ≤ j.q * j.quota) → Dec (1 ≤ s.length) → Same (act j bytes s table a) (act j bytes s table b)
        by (yes h) d =
            subst₂ Same (sym (act-forward j bytes H s table a k wide aside h)) (sym (act-forward j bytes H s table b k' wide' aside h))
            (forward_same (new_here j bytes s table) (target_here j bytes s table))
        by (no h) (yes i) =
            subst₂ Same (sym (act-back j bytes H s table a k wide aside (omega arith) i)) (sym (act-back j bytes H s table b k' wide' aside (omega arith) i))
            (back_same (new_here j bytes s table) i)
        by (no h) (no i) =
            subst₂ Same (sym (act-stay j bytes H s table a k wide aside (omega arith) (omega arith))) (sym (act-stay j bytes H s table b k' wide' aside (omega arith) (omega arith)))
            (stay_same (new_here j bytes s table))

-- a ride
module _ (j : Job) (bytes : List ℕ) (start : ℕ) (table p p' : List ℕ) (R : Ready j bytes start table p) (same : length p ≡ length p') where
  SameRide : Ride → Ride → Type 0
  SameRide q q' = (list : List ℕ) × (q' ≡ with_list q list) × Alike p p' q.state.length q.path list

  next_same : (r : Ride) (b : List ℕ) → Riding j bytes start table p r → Alike p p' r.state.length r.path b → at_goal j bytes r.state.current ≡ false
      → SameRide (next j bytes r) (next j bytes (with_list r b))
  unfolding SameRide next_by
  next_same r b g L e =
      let (list, d, more) = act_same j bytes R.opened.held r.state r.table p p' r.path b L (keeps j bytes start table p R g) (room j bytes start table p R g) e in
      (list, ap (ridden (with_list r b)) d, more)

  from_same : (n : ℕ) (r : Ride) (b : List ℕ) → Riding j bytes start table p r → Alike p p' r.state.length r.path b
      → SameRide (ride_from j bytes n r) (ride_from j bytes n (with_list r b))
  unfolding SameRide ride_from_by
  from_same zero r b g L = (b, refl, L)
  from_same (suc n) r b g L = by (at_goal j bytes r.state.current) refl (from_same n)
    where
      by : (t : Bool) → at_goal j bytes r.state.current ≡ t
          → ((q : Ride) (c : List ℕ) → Riding j bytes start table p q → Alike p p' q.state.length q.path c → SameRide (ride_from j bytes n q) (ride_from j bytes n (with_list q c)))
          → SameRide (ride_from j bytes (suc n) r) (ride_from j bytes (suc n) (with_list r b))
      by true e more = subst₂ SameRide (sym (ride_there j bytes (suc n) r e)) (sym (ride_there j bytes (suc n) (with_list r b) e)) (b, refl, L)
      by false e more =
          let (list, d, M) = next_same r b g L e in
          subst₂ SameRide (sym (ride_on j bytes n r e)) (sym (ride_on j bytes n (with_list r b) e ∙ ap (ride_from j bytes n) d))
          (more (next j bytes r) list (riding_next j bytes start table p R g e) M)

  alike_begun : Alike p p' 0 p p'
  alike_begun = record { kept = refl; long = same; each = λ i. inr (refl, refl) }

  pub ride_same : (list : List ℕ) × (ride j bytes start table p' ≡ with_list (ride j bytes start table p) list)
      × Alike p p' (ride j bytes start table p).state.length (ride j bytes start table p).path list
  unfolding SameRide ride_by
  ride_same = from_same (bound j bytes table) (begun start table p) p' (riding_begun j bytes start table p R) alike_begun

  -- and after any number of decisions the next one answers the same
  pub answers_same : (n : ℕ) → answer_after j bytes start n (record { table = table; path = p' }) ≡ answer_after j bytes start n (record { table = table; path = p })
  unfolding SameRide
  answers_same n =
      let (list, e, L) = from_same n (begun start table p) p' (riding_begun j bytes start table p R) alike_begun in
      ap (λ q. (act j bytes q.state q.table q.path).answer) e ∙ by list L (at_goal j bytes r.state.current) refl
    where
      r : Ride
      r = ride_from j bytes n (begun start table p)

      by : (list : List ℕ) → Alike p p' r.state.length r.path list → (b : Bool) → at_goal j bytes r.state.current ≡ b
          → (act j bytes r.state r.table list).answer ≡ (act j bytes r.state r.table r.path).answer
      by list L true g = ap (λ d. d.answer) (act-arrived j bytes r.state r.table list g) ∙ sym (ap (λ d. d.answer) (act-arrived j bytes r.state r.table r.path g))
      by list L false g =
          let riding = riding_from j bytes start table p R n (begun start table p) (riding_begun j bytes start table p R) in
          let (after, d, more) = act_same j bytes R.opened.held r.state r.table p p' r.path list L (keeps j bytes start table p R riding) (room j bytes start table p R riding) g in
          ap (λ d. d.answer) d

-- lent what a ride from the same table left, it is the same ride
pub ride_again : (j : Job) (bytes : List ℕ) (start : ℕ) (table path : List ℕ) → Ready j bytes start table path
    → ride j bytes start table (ride j bytes start table path).path ≡ ride j bytes start table path
ride_again j bytes start table path R =
    let r = ride j bytes start table path in
    let (list, e, L) = ride_same j bytes start table path r.path R (sym (ride_riding j bytes start table path R).places) in
    e ∙ ap (with_list r) (ext_get_or 0 list r.path (sym L.long) (λ i h. by list i (L.each i)))
  where
    by : (list : List ℕ) (i : ℕ) → Entry path (ride j bytes start table path).path (ride j bytes start table path).path list i
        → get_or list i 0 ≡ get_or (ride j bytes start table path).path i 0
    by list i (inl e) = sym e
    by list i (inr e) = e.1

pub answers_again : (j : Job) (bytes : List ℕ) (start : ℕ) (table path : List ℕ) → Ready j bytes start table path → (n : ℕ)
    → answer_after j bytes start n (record { table = table; path = (ride j bytes start table path).path }) ≡ answer_after j bytes start n (record { table = table; path = path })
answers_again j bytes start table path R = answers_same j bytes start table path (ride j bytes start table path).path R (sym (ride_riding j bytes start table path R).places)
