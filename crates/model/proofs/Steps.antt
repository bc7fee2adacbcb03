-- A decision of the model past its checks, in a trial, is a decision of `learning`, and none of its refusals comes about.
-- The path's cells are the first entries of the lent list: so a state and the lists beside it are one state of `learning`.
use Prim.Native.Nat.{ℕ, suc, ◌+◌, ◌-◌, ◌*◌, ◌≤◌, ◌<◌}
use mathlib.Core.Path.{◌≡◌, refl, sym, ap, ◌∙◌, subst}
use mathlib.Core.Bool.{Bool, true, false, ◌&&◌}
use mathlib.Core.List.{List, [], ◌∷◌, ◌++◌, map, reverse, reverse_aux}
use native.Mathlib.Nat.{le_trans, mul-le-mul}
use native.Mathlib.Decide.{dec_le, ℕ_discrete}
use native.Mathlib.Omega.{arith}
use borrow.Author.Tests.{ltb-true, ltb-false, le-ltb, le-leb, lt-leb, eq-eqb, ne_eqb}
use lib.Dec.{T, ltb}
use lib.ListN.{length, get_or, set, take, length-set, length-take, length-map, length-reverse}
use lib.Seq.{take-suc, get_or-set_same, get_or-set_other}
use Rattle.learning.specs.Walk.{Network}
use Rattle.learning.specs.Trial as learning
use Rattle.learning.specs.Trial.{CanReach, LooksAhead, LeadsOn, raised}
use Rattle.learning.specs.Path.{Linked, All, end, also}
use Rattle.learning.specs.Ground.{net_of, ring_of, last_of, leg_of}
use Rattle.learning.proofs.Walks.{turn}
use Rattle.learning.proofs.Paths.{all_init, all_last, linked_last}
use Rattle.learning.proofs.Decision.{raised_greater, raised_not}
use Rattle.learning.proofs.Trials.{Keeps}
use Rattle.learning.proofs.Never.{path_room_lem, ring_here, new_high}
use Rattle.learning.proofs.Look.{answer, walk_inside}
use Rattle.learning.specs.Route.{Chain, ended, step}
use Rattle.learning.proofs.Lent.{forward-kept}
use Rattle.answers.specs.declared.Job.{Job}
use Rattle.answers.specs.declared.State.{State}
use Rattle.answers.specs.declared.Answer.TheVariants as A
use Rattle.model.specs.Basics.{choose}
use Rattle.model.specs.Floor.{Floor, size, Sized, heading, opposite, dearest_price}
use Rattle.model.specs.Grounds.{price-high, ground_of}
use Rattle.model.specs.Checks.{deepest, ceiling, floor_of, goals, ground_in, farthest}
use Rattle.model.specs.Lookahead.{seen, ring, empty_ring, new_figure, target, route, moves_along, most_moves}
use Rattle.model.specs.Decision.{at_goal, on_path, Deed, rise, stored, forward, forward_by, back_out, back_out_by, stay, act}
use Rattle.model.specs.Ride.{learning_job}
use Rattle.model.proofs.Moves.{opposite-lt, price-move, heading_is}
use Rattle.model.proofs.Openings.{Held, not_both}
use Rattle.model.proofs.Meaning.{InWindow, route_means, route_few}
use Rattle.model.proofs.Cases.{act-learns, learn-forward, learn-back, back-stays, back-goes}
use Rattle.model.proofs.Rings.{empty_none}

-- ---- the model's state as `learning`'s

abbrev pub as_state : State → (table path : List ℕ) → learning.State
as_state s table path = record { cell = s.current; used = s.learned; path = on_path s path; table = table }

-- the lookahead from the current cell
abbrev pub new_here : Job → List ℕ → State → List ℕ → ℕ
new_here j bytes s table = new_figure j bytes (seen j bytes s.current) table

abbrev pub target_here : Job → List ℕ → State → List ℕ → ℕ
target_here j bytes s table = target j bytes (seen j bytes s.current) table

-- the answer says what the deed did: it is no refusal, and not the arrived one
pub data Says (d : Deed) : Type 0 where
  went : d.answer ≡ A.Forward d.state.current d.rise (length d.way) → Says d
  backed : d.answer ≡ A.BackedOut d.state.current d.rise (length d.way) → Says d
  stayed : d.answer ≡ A.Stayed d.rise → Says d

-- what a decision in a trial does
pub record Does (j : Job) (bytes : List ℕ) (s : State) (table path : List ℕ) (d : Deed) : Type 0 where
  pub step : learning.Step (learning_job j bytes) (as_state s table path) d.rise d.cost (as_state d.state d.table d.path)
  pub stores : d.table ≡ stored table s.current (new_here j bytes s table)
  pub places : length d.path ≡ length path
  pub says : Says d
  pub few : length d.way ≤ most_moves
  pub low : All (λ m. m < 8) d.way

pub stored-raised : (table : List ℕ) (s new : ℕ) → stored table s new ≡ raised table s new
stored-raised table s new = by (ltb (get_or table s 0) new) refl
  where
    by : (b : Bool) → ltb (get_or table s 0) new ≡ b → choose b (set table s new) table ≡ raised table s new
    by true e = raised_greater table s new (ltb-true (get_or table s 0) new e)
    by false e = raised_not table s new (ltb-false (get_or table s 0) new e)

pub stored-fits : (table : List ℕ) (s new top : ℕ) → (get_or table s 0 < new → new ≤ top) → ((x : ℕ) → x < length table → get_or table x 0 ≤ top) → (x : ℕ) → x < length table
    → get_or (stored table s new) x 0 ≤ top
stored-fits table s new top low fits x h = by (ltb (get_or table s 0) new) refl (ℕ_discrete x s)
  where
    by : (b : Bool) → ltb (get_or table s 0) new ≡ b → Dec (x ≡ s) → get_or (choose b (set table s new) table) x 0 ≤ top
    by true r (yes e) = omega (arith, low (ltb-true (get_or table s 0) new r), ap (λ (y : ℕ). get_or (set table s new) y 0) e, get_or-set_same table s new 0 (omega arith))
    by true r (no e) = omega (arith, get_or-set_other table s x new 0 e, fits x h)
    by false r d = fits x h

moves-length : (f : Floor) (a : ℕ) (cells : List ℕ) → length (moves_along f a cells) ≡ length cells
unfolding moves_along
moves-length f a [] = refl
moves-length f a (b ∷ bs) = ap suc (moves-length f b bs)

-- a route has at most `most_moves` moves
pub moves_few : (j : Job) (bytes : List ℕ) (s : ℕ) (deep : 1 ≤ j.depth) (floor : s < size (floor_of j bytes)) (aside : at_goal j bytes s ≡ false) → j.depth ≤ deepest
    → (x : ℕ) → InWindow j bytes s deep floor aside x → length (moves_along (floor_of j bytes) s (route j bytes s x)) ≤ most_moves
moves_few j bytes s deep floor aside shallow x near =
    omega (arith, moves-length (floor_of j bytes) s (route j bytes s x), route_few j bytes s deep floor aside shallow x near)

-- one cell more at the end of a walk is one move more
pub moves_more : {N : Network} {S : ℕ → Type 0} (f : Floor) (x : ℕ) {a z c : ℕ} {xs : List ℕ} → Chain N S a xs z c
    → moves_along f a (xs ++ x ∷ []) ≡ moves_along f a xs ++ heading f z x ∷ []
unfolding moves_along
moves_more f x (ended s) = refl
moves_more f x (step {a = a} {b = b} s e k) = ap (λ ms. heading f a b ∷ ms) (moves_more f x k)

-- every move along a walk is one of the eight, and so is every move back
moves-low : (f : Floor) (z : Sized f) (gs : List ℕ) {S : ℕ → Type 0} {a b c : ℕ} {xs : List ℕ} → Chain (net_of (ground_of f gs)) S a xs b c → All (λ m. m < 8) (moves_along f a xs)
unfolding moves_along
moves-low f z gs (ended s) = end
moves-low f z gs (step {a = a} {b = b} s e k) =
    let (m, l, t, q) = price-move f z a b (omega (arith, e.0, e.1)) in
    let one : heading f a b < 8 = omega (arith, l, ap (heading f a) q, heading_is f z a m l t) in
    also one (moves-low f z gs k)

back_low : {xs : List ℕ} (ys : List ℕ) → All (λ m. m < 8) xs → All (λ m. m < 8) (map opposite ys) → All (λ m. m < 8) (map opposite (reverse_aux xs ys))
back_low ys end h = h
back_low ys (also {x = x} l k) h = back_low (x ∷ ys) k (also (opposite-lt x l) h)

-- the path with its last cell apart
parted : (path : List ℕ) (n : ℕ) → 1 ≤ n → n ≤ length path → take n path ≡ take (n - 1) path ++ get_or path (n - 1) 0 ∷ []
parted path n h l =
    let e : suc (n - 1) ≡ n = omega arith in
    ap (λ m. take m path) (sym e) ∙ take-suc path (n - 1) 0 (omega arith)

same : (c u : ℕ) {p p' t t' : List ℕ} → p ≡ p' → t ≡ t'
    → ◌≡◌ {A = learning.State} (record { cell = c; used = u; path = p; table = t }) (record { cell = c; used = u; path = p'; table = t' })
same c u e f i = record { cell = c; used = u; path = e i; table = f i }

-- ---- in a trial

pub is_false : (b : Bool) → ¬ T b → b ≡ false
is_false true h = absurd (h tt)
is_false false h = refl

module _ (j : Job) (bytes : List ℕ) (H : Held j bytes) where
  abbrev J : learning.Job
  J = learning_job j bytes

  pub size-high : size (floor_of j bytes) ≤ 4096
  size-high = mul-le-mul H.sized.narrow H.sized.low

  pub dear : (a b c : ℕ) → J.net.Edge a b c → c ≤ dearest_price
  dear a b c e = omega (arith, e.1, price-high (floor_of j bytes) a b)

  module _ (s x : ℕ) (r : CanReach J s) (g : ¬ J.Goal s) (near : ring_of (ground_in j bytes) j.depth s x ≤ last_of (ground_in j bytes) j.depth s) where
    few_here : length (moves_along (floor_of j bytes) s (route j bytes s x)) ≤ most_moves
    unfolding ring_of last_of
    few_here = moves_few j bytes s H.settings.deep (H.lawful.on_floor s r) (is_false _ g) H.settings.shallow x near

    moves_eight : All (λ m. m < 8) (moves_along (floor_of j bytes) s (route j bytes s x))
    unfolding ring_of last_of
    moves_eight =
        moves-low (floor_of j bytes) H.sized (goals j)
        (route_means j bytes s H.settings.deep (H.lawful.on_floor s r) (is_false _ g) H.settings.shallow x near).0

  module _ {start : ℕ} (s : State) (table path : List ℕ) (k : Keeps J start (as_state s table path)) (room : size (floor_of j bytes) ≤ length path) where
    pub short : s.length < size (floor_of j bytes)
    short = omega (arith, path_room_lem H.lawful k, length-take s.length path)

    pub here : CanReach J s.current
    here = all_last (on_path s path) s.current k.reach

    module _ (aside : at_goal j bytes s.current ≡ false) where
      pub off : ¬ J.Goal s.current
      off g = subst T aside g

      pub looked : LooksAhead J s.current table (new_here j bytes s table) (target_here j bytes s table)
      looked = answer (ground_in j bytes) j.depth j.p j.q j.quota H.settings.deep H.settings.light H.settings.weight s.current table off here

      -- neither 9 nor 10
      seeing : empty_ring j bytes (seen j bytes s.current) (seen j bytes s.current).last ≡ false
      unfolding ring_of last_of
      seeing = empty_none j bytes (seen j bytes s.current) (seen j bytes s.current).last full
        where
          full : (i : ℕ) → 1 ≤ i → i ≤ (seen j bytes s.current).last → (x : ℕ) × (x < size (floor_of j bytes)) × (ring j bytes (seen j bytes s.current) x ≡ i)
          full i h l =
              let (x, e) = ring_here H.lawful k off i l in
              let W = H.lawful.windows s.current off here in
              let near : ring_of (ground_in j bytes) j.depth s.current x ≤ last_of (ground_in j bytes) j.depth s.current = omega arith in
              (x, walk_inside (ground_in j bytes) (H.lawful.on_floor s.current here) (turn (W.attained x near).1), e)

      pub new_fits : new_here j bytes s table ≤ ceiling
      new_fits =
          let far : dearest_price * (size (floor_of j bytes) - 1) ≤ farthest = omega (arith, size-high) in
          le_trans (new_high H.lawful k dearest_price dear off looked) (mul-le-mul H.settings.fine far)

      below : (ltb (get_or table s.current 0) (new_here j bytes s table) && ltb ceiling (new_here j bytes s table)) ≡ false
      below = not_both (ltb (get_or table s.current 0) (new_here j bytes s table)) _ (λ e. le-ltb ceiling (new_here j bytes s table) new_fits)

      -- forward
      pub act-forward : s.learned + rise table s.current (new_here j bytes s table) ≤ j.q * j.quota
          → act j bytes s table path ≡ forward j bytes s (seen j bytes s.current) table path (new_here j bytes s table) (target_here j bytes s table)
      act-forward h =
          act-learns j bytes s table path aside seeing
          ∙ learn-forward j bytes s table path (seen j bytes s.current) (new_here j bytes s table) (target_here j bytes s table) below (le-leb _ _ h)

      forward_does : s.learned + rise table s.current (new_here j bytes s table) ≤ j.q * j.quota
          → Does j bytes s table path (forward j bytes s (seen j bytes s.current) table path (new_here j bytes s table) (target_here j bytes s table))
      unfolding forward_by leg_of ring_of last_of
      forward_does h =
          let new = new_here j bytes s table in
          let t = target_here j bytes s table in
          record {
            step = subst (learning.Step J (as_state s table path) (rise table s.current new) (leg_of (ground_in j bytes) j.depth s.current t))
                (same t (s.learned + rise table s.current new) (sym (forward-kept path s.length s.current t (omega (arith, short)))) (sym (stored-raised table s.current new)))
                (learning.forward off looked h);
            stores = refl;
            places = length-set path s.length s.current;
            says = went refl;
            few = few_here s.current t here off (omega (arith, looked.on_last));
            low = moves_eight s.current t here off (omega (arith, looked.on_last));
          }

      -- backing out, with a path: not 8
      abbrev l : ℕ
      l = get_or path (s.length - 1) 0

      split : 1 ≤ s.length → on_path s path ≡ take (s.length - 1) path ++ l ∷ []
      split h = parted path s.length h (omega (arith, short))

      leads : 1 ≤ s.length → LeadsOn J l s.current
      leads h = linked_last (take (s.length - 1) path) l (subst (λ xs. Linked (LeadsOn J) xs s.current) (split h) k.linked)

      there : 1 ≤ s.length → CanReach J l
      there h =
          all_last (take (s.length - 1) path) l
          (all_init (take (s.length - 1) path ++ l ∷ []) s.current (subst (λ xs. All (CanReach J) (xs ++ s.current ∷ [])) (split h) k.reach))

      pub act-back : j.q * j.quota < s.learned + rise table s.current (new_here j bytes s table) → 1 ≤ s.length
          → act j bytes s table path ≡ back_out j bytes s (seen j bytes l) table path (new_here j bytes s table) l
      unfolding ring_of last_of
      act-back h i =
          act-learns j bytes s table path aside seeing
          ∙ learn-back j bytes s table path (seen j bytes s.current) (new_here j bytes s table) (target_here j bytes s table) below (lt-leb _ _ h)
          ∙ back-goes j bytes s table path (new_here j bytes s table) (ne_eqb s.length 0 (λ e. omega arith)) (eq-eqb _ _ (leads i).1)

      back_does : j.q * j.quota < s.learned + rise table s.current (new_here j bytes s table) → 1 ≤ s.length
          → Does j bytes s table path (back_out j bytes s (seen j bytes l) table path (new_here j bytes s table) l)
      unfolding back_out_by leg_of ring_of last_of
      back_does h i =
          let new = new_here j bytes s table in
          record {
            step = subst (λ x. learning.Step J x (rise table s.current new) (leg_of (ground_in j bytes) j.depth l s.current)
                (as_state (record { current = l; learned = s.learned; length = s.length - 1 }) (stored table s.current new) path))
                (same s.current s.learned (sym (split i)) refl)
                (subst (learning.Step J _ (rise table s.current new) (leg_of (ground_in j bytes) j.depth l s.current))
                (same l s.learned refl (sym (stored-raised table s.current new)))
                (learning.back_out off looked h));
            stores = refl;
            places = refl;
            says = backed refl;
            few = omega (
              arith,
              length-map (reverse (moves_along (floor_of j bytes) l (route j bytes l s.current))) opposite,
              length-reverse (moves_along (floor_of j bytes) l (route j bytes l s.current)),
              few_here l s.current (there i) (leads i).0 (omega (arith, (leads i).1)),
            );
            low = back_low [] (moves_eight l s.current (there i) (leads i).0 (omega (arith, (leads i).1))) end;
          }

      -- with none
      pub act-stay : j.q * j.quota < s.learned + rise table s.current (new_here j bytes s table) → s.length ≡ 0
          → act j bytes s table path ≡ stay s table path (new_here j bytes s table)
      act-stay h e =
          act-learns j bytes s table path aside seeing
          ∙ learn-back j bytes s table path (seen j bytes s.current) (new_here j bytes s table) (target_here j bytes s table) below (lt-leb _ _ h)
          ∙ back-stays j bytes s table path (new_here j bytes s table) (eq-eqb s.length 0 e)

      stay_does : j.q * j.quota < s.learned + rise table s.current (new_here j bytes s table) → s.length ≡ 0
          → Does j bytes s table path (stay s table path (new_here j bytes s table))
      unfolding stay
      stay_does h e =
          let new = new_here j bytes s table in
          let none : [] ≡ on_path s path = ap (λ (n : ℕ). take n path) (sym e) in
          record {
            step = subst (λ p. learning.Step J (record { cell = s.current; used = s.learned; path = p; table = table }) (rise table s.current new) 0
                (record { cell = s.current; used = s.learned; path = p; table = stored table s.current new })) none
                (subst (learning.Step J _ (rise table s.current new) 0) (same s.current s.learned refl (sym (stored-raised table s.current new))) (learning.stay off looked h));
            stores = refl;
            places = refl;
            says = stayed refl;
            few = omega arith;
            low = end;
          }

      -- whichever it is
      pub act_does : Does j bytes s table path (act j bytes s table path)
      act_does = by (dec_le (s.learned + rise table s.current (new_here j bytes s table)) (j.q * j.quota)) (dec_le 1 s.length)
        where
          by : Dec (s.learned + rise table s.current (new_here j bytes s table) ≤ j.q * j.quota) → Dec (1 ≤ s.length) → Does j bytes s table path (act j bytes s table path)
          by (yes h) d = subst (Does j bytes s table path) (sym (act-forward h)) (forward_does h)
          by (no h) (yes i) = subst (Does j bytes s table path) (sym (act-back (omega arith) i)) (back_does (omega arith) i)
          by (no h) (no i) = subst (Does j bytes s table path) (sym (act-stay (omega arith) (omega arith))) (stay_does (omega arith) (omega arith))
