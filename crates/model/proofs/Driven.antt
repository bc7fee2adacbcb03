-- The moves drive the cart: those that a decision writes are allowed one after another, lead to the answer's target and add up to the decision's cost.
-- A route is a walk, and each of its steps is the heading's move; the way back takes the opposite moves in turn. So a trial's moves lead to the bench.
use Prim.Native.Nat.{ℕ, zero, suc, ◌+◌, ◌-◌, ◌*◌, ◌≤◌, ◌<◌}
use mathlib.Core.Path.{◌≡◌, refl, sym, ap, ◌∙◌, subst}
use mathlib.Core.Bool.{Bool, true, false, ◌&&◌}
use mathlib.Core.List.{List, [], ◌∷◌, ◌++◌, map, reverse, reverse_aux}
use native.Mathlib.Nat.{add_assoc}
use native.Mathlib.Omega.{arith}
use borrow.Author.Tests.{eqb-true, eqb-false}
use lib.Dec.{T, ltb, leb, eqb}
use lib.ListN.{length, get_or, take, drop, length-map, length-reverse}
use lib.Seq.{length-take-le, take_at, drop_at, drop-drop}
use Rattle.learning.specs.Ground.{View, net_of}
use Rattle.learning.specs.Route.{Chain, ended, step}
use Rattle.answers.specs.declared.Job.{Job}
use Rattle.answers.specs.declared.State.{State}
use Rattle.answers.specs.Outcomes.{Verdict}
use Rattle.std.specs.Prelude.{Ok, Err}
use Rattle.answers.specs.declared.Answer.{Answer}
use Rattle.answers.specs.declared.Answer.TheVariants as A
use Rattle.model.specs.Basics.{member}
use Rattle.model.specs.Floor.{Floor, size, Sized, free, price, ahead, allowed, heading, opposite}
use Rattle.model.specs.Grounds.{ground_of, price_same}
use Rattle.model.specs.Checks.{ceiling, floor_of, goals, sizes, path_room, settings, places, goals_hold, figures}
use Rattle.model.specs.Lookahead.{seen, ring, w, empty_ring, route, moves_along, most_moves}
use Rattle.model.specs.Decision.{at_goal, moves_room, judge, Deed, unchanged, refused, rise, forward, forward_by, back_out, back_out_by, stay, go_back, act, laid, Outcome, decide, least_room}
use Rattle.model.specs.Opening.{open_trial}
use Rattle.model.specs.Ride.{Ride, begun, next, next_by, ride_from, ride_from_by, bound, ride, ride_by}
use Rattle.model.proofs.Moves.{free-below, price-move, heading_is, opposite-lt, opposite-ahead, opposite-allowed}
use Rattle.model.proofs.Accepted.{Settings, then_done, sizes_judges, path_judges, settings_judges}
use Rattle.model.proofs.Benches.{places_judges, goal_means, at_goal_lem}
use Rattle.model.proofs.Held.{Sound, moves_judges, held_judges}
use Rattle.model.proofs.Openings.{Ready, ready}
use Rattle.model.proofs.Meaning.{route_means, ahead_means}
use Rattle.model.proofs.Cases.{act-arrived, act_blind, act-learns, learn_over, learn-forward, learn-back, back-stays, back_lost, back-goes, decide-refused, decide_acts}
use Rattle.model.proofs.Steps.{new_here, target_here, moves_few}
use Rattle.model.proofs.Rides.{ride_there, ride_on, Riding, judges, riding_begun, riding_next, ride_arrives}

-- ---- to be driven by moves

-- Driven by these moves, each one of the eight and allowed where it is made, the cart comes from a cell to another; their prices add up to the cost.
pub data Drives (f : Floor) : (from : ℕ) → (moves : List ℕ) → (to cost : ℕ) → Type 0 where
  there : {a : ℕ} → Drives f a [] a 0
  move : {a m z c : ℕ} {ms : List ℕ} → m < 8 → allowed f a m ≡ true → Drives f (ahead f a m) ms z c → Drives f a (m ∷ ms) z (price f a (ahead f a m) + c)

-- one drive after another
pub drives_on : {f : Floor} {a b z c d : ℕ} {ms ns : List ℕ} → Drives f a ms b c → Drives f b ns z d → Drives f a (ms ++ ns) z (c + d)
drives_on {f} {a} {z = z} {ns = ns} there k = subst (Drives f a ns z) (omega arith) k
drives_on {f} {a} {z = z} {ns = ns} (move {m = m} {c = c} {ms = ms} l t k) g =
    subst (Drives f a (m ∷ (ms ++ ns)) z) (sym (add_assoc (price f a (ahead f a m)) c _)) (move l t (drives_on k g))

-- a cell with a price is driven to by the heading's move
heads : (f : Floor) → Sized f → (a b : ℕ) → 1 ≤ price f a b → (heading f a b < 8) × (allowed f a (heading f a b) ≡ true) × (ahead f a (heading f a b) ≡ b)
heads f z a b h =
    let (m, l, t, q) = price-move f z a b h in
    let e : m ≡ heading f a b = sym (heading_is f z a m l t) ∙ ap (heading f a) q in
    subst (λ k. (k < 8) × (allowed f a k ≡ true) × (ahead f a k ≡ b)) e (l, t, q)

-- a walk's headings drive along it
pub chain_drives : (f : Floor) → Sized f → (gs : List ℕ) {S : ℕ → Type 0} {a z c : ℕ} {xs : List ℕ} → Chain (net_of (ground_of f gs)) S a xs z c → Drives f a (moves_along f a xs) z c
unfolding moves_along
chain_drives f s gs (ended t) = there
chain_drives f s gs (step {a = a} {b = b} {z = z} {c = c} {k = k} {xs = xs} t e more) =
    let (l, u, q) = heads f s a b (omega (arith, e.0, e.1)) in
    subst (λ d. Drives f a (heading f a b ∷ moves_along f b xs) z (d + k)) (ap (price f a) q ∙ e.1)
    (move l u (subst (λ x. Drives f x (moves_along f b xs) z k) (sym q) (chain_drives f s gs more)))

-- the opposite moves in reverse drive back, at the same cost
back_on : (f : Floor) → Sized f → {a b z c d : ℕ} {ms : List ℕ} (ns : List ℕ) → Drives f a ms b c → Drives f a (map opposite ns) z d
    → Drives f b (map opposite (reverse_aux ms ns)) z (c + d)
back_on f s {a} {z = z} ns there k = subst (Drives f a (map opposite ns) z) (omega arith) k
back_on f s {a} {b} {z} {d = d} ns (move {m = m} {c = c} {ms = ms} l t k) g =
    let y = ahead f a m in
    let e = opposite-ahead f s a m l t in
    let home : Drives f y (opposite m ∷ map opposite ns) z (price f y (ahead f y (opposite m)) + d) =
    move (opposite-lt m l) (opposite-allowed f s a m l t) (subst (λ x. Drives f x (map opposite ns) z d) (sym e) g) in
    subst (Drives f b (map opposite (reverse_aux ms (m ∷ ns))) z) (omega (arith, ap (price f y) e, price_same f a y))
    (back_on f s (m ∷ ns) k home)

pub drives_back : (f : Floor) → Sized f → {a b c : ℕ} {ms : List ℕ} → Drives f a ms b c → Drives f b (map opposite (reverse ms)) a c
drives_back f s {a} {b} {c} {ms} k = subst (Drives f b (map opposite (reverse ms)) a) (omega arith) (back_on f s [] k there)

-- ---- a decision that passes its checks

-- what those checks have shown
record Passed (j : Job) (bytes : List ℕ) (s : State) (path : List ℕ) (places from : ℕ) : Type 0 where
  sized : Sized (floor_of j bytes)
  settings : Settings j
  room : from + least_room ≤ places
  here : free (floor_of j bytes) s.current ≡ true
  sound : Sound j bytes s.current path s.length

passed : (j : Job) (bytes : List ℕ) (s : State) (table path : List ℕ) (room from : ℕ) → judge j bytes s table path room from ≡ Ok tt → Passed j bytes s path room from
unfolding judge
passed j bytes s table path room from e =
    let f = floor_of j bytes in
    let (one, after_one) = then_done (sizes f (length table)) _ e in
    let (two, after_two) = then_done (path_room f (length path)) _ after_one in
    let (moves, after-moves) = then_done (moves_room room from) _ after_two in
    let (three, after-three) = then_done (settings j) _ after-moves in
    let (four, after-four) = then_done (places f s.current (goals j)) _ after-three in
    let (order, after-order) = then_done (goals_hold j.goals) _ after-four in
    let (five, eight) = then_done (figures f table) _ after-order in
    record {
      sized = ((sizes_judges f (length table)).gives one).0;
      settings = (settings_judges j).gives three;
      room = (moves_judges room from).gives moves;
      here = ((places_judges f s.current (goals j)).gives four).0;
      sound = ((held_judges j bytes s path ((path_judges f (length path)).gives two)).gives eight).sound;
    }

-- an answer that names a target and a number of moves: forward to it, or backed out to it
pub data Names : Answer → (target moves : ℕ) → Type 0 where
  forward_to : {t a n : ℕ} → Names (A.Forward t a n) t n
  back_to : {t a n : ℕ} → Names (A.BackedOut t a n) t n

-- what is said of a decision's moves: they drive the cart from where it stands to where it stands then, at the decision's cost; they are few;
-- and the target and the number of moves that an answer names are theirs
pub record Driven (j : Job) (bytes : List ℕ) (s : State) (d : Deed) : Type 0 where
  pub drives : Drives (floor_of j bytes) s.current d.way d.state.current d.cost
  pub few : length d.way ≤ most_moves
  pub names : (t n : ℕ) → Names d.answer t n → (d.state.current ≡ t) × (length d.way ≡ n)

module _ (j : Job) (bytes : List ℕ) (s : State) (table path : List ℕ) where
  arrived_drives : Driven j bytes s (unchanged s table path A.Arrived)
  arrived_drives = record { drives = there; few = omega arith; names = none }
    where
      none : (t n : ℕ) → Names A.Arrived t n → (s.current ≡ t) × (0 ≡ n)
      none t n = elim [ ]

  refused_drives : (number : ℕ) → Driven j bytes s (refused s table path number)
  refused_drives number = record { drives = there; few = omega arith; names = none }
    where
      none : (t n : ℕ) → Names (refused s table path number).answer t n → (s.current ≡ t) × (0 ≡ n)
      none t n = elim [ ]

  stay_drives : (new : ℕ) → Driven j bytes s (stay s table path new)
  unfolding stay
  stay_drives new = record { drives = there; few = omega arith; names = none }
    where
      none : (t n : ℕ) → Names (A.Stayed (rise table s.current new)) t n → (s.current ≡ t) × (0 ≡ n)
      none t n = elim [ ]

  module _ {room from : ℕ} (P : Passed j bytes s path room from) where
    abbrev f : Floor
    f = floor_of j bytes

    -- the route from a cell that is no goal to a cell of its window, as moves
    route_drives : (a x : ℕ) → a < size f → at_goal j bytes a ≡ false → ring j bytes (seen j bytes a) x ≤ (seen j bytes a).last
        → Drives f a (moves_along f a (route j bytes a x)) x (w j bytes (seen j bytes a) x)
    route_drives a x l e h = chain_drives f P.sized (goals j) (route_means j bytes a P.settings.deep l e P.settings.shallow x h).0

    forward_drives : at_goal j bytes s.current ≡ false → empty_ring j bytes (seen j bytes s.current) (seen j bytes s.current).last ≡ false
        → Driven j bytes s (forward j bytes s (seen j bytes s.current) table path (new_here j bytes s table) (target_here j bytes s table))
    unfolding forward_by
    forward_drives e full =
        let inside = free-below f s.current P.here in
        let near : ring j bytes (seen j bytes s.current) (target_here j bytes s table) ≤ (seen j bytes s.current).last =
        omega (arith, (ahead_means j bytes s.current P.settings.deep inside e table full).on_last) in
        record { drives = route_drives s.current _ inside e near; few = moves_few j bytes s.current P.settings.deep inside e P.settings.shallow _ near; names = by }
      where
        by : {x a m : ℕ} (t n : ℕ) → Names (A.Forward x a m) t n → (x ≡ t) × (m ≡ n)
        by t n forward_to = (refl, refl)

    -- back to the path's last cell, which is free, no goal, and sees the current cell on its last ring
    back_drives : (new : ℕ) → eqb s.length 0 ≡ false
        → eqb (ring j bytes (seen j bytes (get_or path (s.length - 1) 0)) s.current) (seen j bytes (get_or path (s.length - 1) 0)).last ≡ true
        → Driven j bytes s (back_out j bytes s (seen j bytes (get_or path (s.length - 1) 0)) table path new (get_or path (s.length - 1) 0))
    unfolding back_out_by
    back_drives new e on =
        let l = get_or path (s.length - 1) 0 in
        let some : s.length ≡ 0 → ⊥ = eqb-false s.length 0 e in
        let fair = P.sound.fair (s.length - 1) (omega arith) in
        let inside = free-below f l fair.free in
        let aside : at_goal j bytes l ≡ false = at_goal_lem j bytes l fair.free ∙ fair.away in
        let near : ring j bytes (seen j bytes l) s.current ≤ (seen j bytes l).last = omega (arith, eqb-true (ring j bytes (seen j bytes l) s.current) (seen j bytes l).last on) in
        record {
          drives = drives_back f P.sized (route_drives l s.current inside aside near);
          few = omega (
            arith,
            length-map (reverse (moves_along f l (route j bytes l s.current))) opposite,
            length-reverse (moves_along f l (route j bytes l s.current)),
            moves_few j bytes l P.settings.deep inside aside P.settings.shallow s.current near,
          );
          names = by;
        }
      where
        by : {x a m : ℕ} (t n : ℕ) → Names (A.BackedOut x a m) t n → (x ≡ t) × (m ≡ n)
        by t n back_to = (refl, refl)

    go_back_drives : (new : ℕ) → Driven j bytes s (go_back j bytes s table path new)
    go_back_drives new = by (eqb s.length 0) refl (eqb (ring j bytes (seen j bytes l) s.current) (seen j bytes l).last) refl
      where
        l : ℕ
        l = get_or path (s.length - 1) 0

        by : (a : Bool) → eqb s.length 0 ≡ a → (b : Bool) → eqb (ring j bytes (seen j bytes l) s.current) (seen j bytes l).last ≡ b → Driven j bytes s (go_back j bytes s table path new)
        by true e b g = subst (Driven j bytes s) (sym (back-stays j bytes s table path new e)) (stay_drives new)
        by false e true g = subst (Driven j bytes s) (sym (back-goes j bytes s table path new e g)) (back_drives new e g)
        by false e false g = subst (Driven j bytes s) (sym (back_lost j bytes s table path new e g)) (refused_drives 8)

    -- whichever it is
    deed_drives : Driven j bytes s (act j bytes s table path)
    deed_drives =
        by (at_goal j bytes s.current) refl (empty_ring j bytes v v.last) refl
        (ltb (get_or table s.current 0) new && ltb ceiling new) refl (leb (s.learned + rise table s.current new) (j.q * j.quota)) refl
      where
        v : View
        v = seen j bytes s.current

        new : ℕ
        new = new_here j bytes s table

        past : {d : Deed} → act j bytes s table path ≡ d → Driven j bytes s d → Driven j bytes s (act j bytes s table path)
        past e h = subst (Driven j bytes s) (sym e) h

        by : (a : Bool) → at_goal j bytes s.current ≡ a → (b : Bool) → empty_ring j bytes v v.last ≡ b → (c : Bool) → (ltb (get_or table s.current 0) new && ltb ceiling new) ≡ c
            → (d : Bool) → leb (s.learned + rise table s.current new) (j.q * j.quota) ≡ d → Driven j bytes s (act j bytes s table path)
        by true e b f c g d h = past (act-arrived j bytes s table path e) arrived_drives
        by false e true f c g d h = past (act_blind j bytes s table path e f) (refused_drives 9)
        by false e false f true g d h =
            past (act-learns j bytes s table path e f ∙ learn_over j bytes s table path v new (target_here j bytes s table) g) (refused_drives 10)
        by false e false f false g true h =
            past (act-learns j bytes s table path e f ∙ learn-forward j bytes s table path v new (target_here j bytes s table) g h) (forward_drives e f)
        by false e false f false g false h =
            past (act-learns j bytes s table path e f ∙ learn-back j bytes s table path v new (target_here j bytes s table) g h) (go_back_drives new)

  -- a decision that passes its checks drives the cart by its moves
  pub act_drives : (room from : ℕ) → judge j bytes s table path room from ≡ Ok tt → Driven j bytes s (act j bytes s table path)
  act_drives room from e = deed_drives (passed j bytes s table path room from e)

-- ---- the call: what its answer says of the moves is what then stands in the lent list

-- n moves stand in the list from the place named on, which drive the cart to the target; before and after them the list is as lent
pub record Moved (f : Floor) (here target n cost from : ℕ) (lent moves : List ℕ) : Type 0 where
  pub drives : Drives f here (take n (drop from moves)) target cost
  pub within : from + n ≤ length lent
  pub before : take from moves ≡ take from lent
  pub after : drop (from + n) moves ≡ drop (from + n) lent

laid-moved : (f : Floor) {here target cost : ℕ} (n from : ℕ) (lent way : List ℕ) → from + least_room ≤ length lent → length way ≡ n → length way ≤ most_moves → Drives f here way target cost
    → Moved f here target n cost from lent (laid lent from way)
laid-moved f {here} {target} {cost} n from lent way room e few k =
    let rest = drop (from + length way) lent in
    let front : length (take from lent) ≡ from = length-take-le from lent (omega arith) in
    let back : drop from (laid lent from way) ≡ way ++ rest = drop_at (take from lent) (way ++ rest) from front in
    record {
      drives = subst (λ ms. Drives f here ms target cost) (sym (ap (take n) back ∙ take_at way rest n e)) k;
      within = omega arith;
      before = take_at (take from lent) (way ++ rest) from front;
      after = sym (drop-drop n from (laid lent from way)) ∙ ap (drop n) back ∙ drop_at way rest n e ∙ ap (λ k. drop (from + k) lent) e;
    }

module _ (j : Job) (bytes : List ℕ) (s : State) (table path moves : List ℕ) (from : ℕ) where
  -- whatever it is called with: where its answer names a target and a number of moves, the cart is driven there by those
  pub decide_drives : (t n : ℕ) → Names (decide j bytes s table path moves from).answer t n
      → ((decide j bytes s table path moves from).state.current ≡ t)
      × Moved (floor_of j bytes) s.current t n (act j bytes s table path).cost from moves (decide j bytes s table path moves from).moves
  decide_drives t n = by (judge j bytes s table path (length moves) from) refl
    where
      d : Deed
      d = act j bytes s table path

      Says : Outcome → Type 0
      Says o = Names o.answer t n → (o.state.current ≡ t) × Moved (floor_of j bytes) s.current t n d.cost from moves o.moves

      by : (v : Verdict) → judge j bytes s table path (length moves) from ≡ v → Says (decide j bytes s table path moves from)
      by (Err r) e = subst Says (sym (decide-refused j bytes s table path moves from r e)) none
        where
          none : Names (A.Refused r) t n → (s.current ≡ t) × Moved (floor_of j bytes) s.current t n d.cost from moves moves
          none = elim [ ]
      by (Ok _) e = subst Says (sym (decide_acts j bytes s table path moves from e)) goes
        where
          goes : Names d.answer t n → (d.state.current ≡ t) × Moved (floor_of j bytes) s.current t n d.cost from moves (laid moves from d.way)
          goes h =
              let D = act_drives j bytes s table path (length moves) from e in
              let (to, count) = D.names t n h in
              let room = (passed j bytes s table path (length moves) from e).room in
              (to, laid-moved (floor_of j bytes) n from moves d.way room count D.few (subst (λ x. Drives (floor_of j bytes) s.current d.way x d.cost) to D.drives))

-- ---- a trial

-- a ride so far: its moves drive the cart from the start to where it stands, and its travel is what they cost
abbrev pub DrivenFrom : (start : ℕ) → Job → List ℕ → Ride → Type 0
DrivenFrom start j bytes r = Drives (floor_of j bytes) start r.moves r.state.current r.travel

module _ (j : Job) (bytes : List ℕ) (start : ℕ) (table path : List ℕ) (e : open_trial j bytes start table path ≡ Ok tt) where
  abbrev Drove : Ride → Type 0
  Drove r = DrivenFrom start j bytes r

  drove_from : (n : ℕ) (r : Ride) → Riding j bytes start table path r → Drove r → Drove (ride_from j bytes n r)
  unfolding ride_from_by next_by
  drove_from zero r g k = k
  drove_from (suc n) r g k = by (at_goal j bytes r.state.current) refl (drove_from n)
    where
      R : Ready j bytes start table path
      R = ready j bytes start table path e

      by : (b : Bool) → at_goal j bytes r.state.current ≡ b → ((q : Ride) → Riding j bytes start table path q → Drove q → Drove (ride_from j bytes n q))
          → Drove (ride_from j bytes (suc n) r)
      by true a more = subst Drove (sym (ride_there j bytes (suc n) r a)) k
      by false a more =
          let D = act_drives j bytes r.state r.table r.path least_room 0 (judges j bytes start table path R g least_room 0 (omega arith)) in
          subst Drove (sym (ride_on j bytes n r a)) (more (next j bytes r) (riding_next j bytes start table path R g a) (drives_on k D.drives))

  -- after any number of its decisions; and a whole trial's moves drive the cart from the start to a bench, and its travel is what they cost
  pub trial_drives : (n : ℕ) → DrivenFrom start j bytes (ride_from j bytes n (begun start table path))
  trial_drives n = drove_from n (begun start table path) (riding_begun j bytes start table path (ready j bytes start table path e)) there

  pub trial_ends_at_a_bench : member (ride j bytes start table path).state.current (goals j) ≡ true
  trial_ends_at_a_bench = goal_means (floor_of j bytes) (goals j) _ (subst T (sym (ride_arrives j bytes start table path (ready j bytes start table path e))) tt)

  pub trial_drives_to_a_bench : Drives (floor_of j bytes) start (ride j bytes start table path).moves (ride j bytes start table path).state.current (ride j bytes start table path).travel
  unfolding ride_by
  trial_drives_to_a_bench = trial_drives (bound j bytes table)
