-- A decision past its checks, put together from what its parts promise: one law for each way through it.
-- Assumes nothing.
use Prim.Native.Nat.{ℕ, ◌+◌, ◌-◌, ◌*◌, ◌≤◌, ◌<◌}
use mathlib.Core.Path.{◌≡◌, refl, sym, ap, ap₂, ◌∙◌}
use mathlib.Core.Bool.{Bool, true, false, ◌&&◌}
use mathlib.Core.List.{List}
use native.Mathlib.Nat.{mul-le-mul}
use native.Mathlib.Omega.{arith}
use borrow.Author.Tests.{eq-eqb, ne_eqb, eqb-true, le-leb, lt-leb}
use lib.Dec.{ltb, eqb}
use lib.ListN.{length, get_or}
use Rattle.answers.specs.declared.Job.{Job}
use Rattle.answers.specs.declared.State.{State}
use Rattle.answers.specs.declared.Refusal.{Refusal}
use Rattle.answers.specs.declared.Answer.{Answer}
use Rattle.answers.specs.declared.Answer.TheVariants as A
use Rattle.answers.specs.Outcomes.{Verdict}
use Rattle.std.specs.Prelude.{Ok, Err}
use Rattle.answers.specs.declared.Decided.{Decided}
use Rattle.answers.specs.Says.{says_answer}
use Rattle.model.specs.Basics.{member}
use Rattle.model.specs.Floor.{free}
use Rattle.model.specs.Checks.{ceiling, floor_of, goals}
use Rattle.model.specs.Lookahead.{seen, ring, w, empty_ring}
use Rattle.model.specs.Decision.{Deed, at_goal, refused, rise, stored, forward, forward_by, back_out, back_out_by, stay, go_back, learn, act, outcome_of, decide, laid}
use Rattle.model.proofs.Accepted.{Settings, never}
use Rattle.model.proofs.Moves.{sized-cells, free-below, free_few}
use Rattle.model.proofs.Benches.{at_goal_lem}
use Rattle.model.proofs.Meaning.{window-inside, nine_not}
use Rattle.model.proofs.Cases.{act-arrived, act_blind, act-learns, learn_over, learn-forward, learn-back, back-stays, back_lost, back-goes, decide-refused, decide_acts}
use Rattle.lookahead.specs.declared.Ahead.{Ahead}
use Rattle.lookahead.specs.declared.Scratch.{Scratch}
use Rattle.lookahead.specs.Contract.{Used, Asked, Near, Seen, Window, Aimed, Figures, moves_to}
use Rattle.decision.specs.declared.Acted.{Acted}
use Rattle.decision.specs.Laying.{way_back, way_of, counts, Shows, Lays}
use Rattle.decision.specs.Ready.{Places, Ready, Judged, Acts, Serves, Decides}
use Rattle.decision.specs.Inner.{Open, Extended, refusing, learns}

-- ---- what a ready call gives its parts

module _ {j : Job} {bytes : List ℕ} {s : State} {table path : List ℕ} (r : Ready j bytes s table path) where
  pub asked : {there : Bool} → there ≡ member s.current (goals j) → there ≡ false → Asked j bytes s.current
  asked e away = record {
    sized = r.sized;
    start = r.here;
    benches = r.benches;
    apart = sym e ∙ away;
    shallow = r.settings.deep;
    deep = r.settings.shallow;
  }

  asked_at : (k : ℕ) → k < s.length → Asked j bytes (get_or path k 0)
  asked_at k h = record {
    sized = r.sized;
    start = (r.fair k h).free;
    benches = r.benches;
    apart = (r.fair k h).away;
    shallow = r.settings.deep;
    deep = r.settings.shallow;
  }

  pub asked_last : {l : ℕ} → l ≡ get_or path (s.length - 1) 0 → 1 ≤ s.length → Asked j bytes l
  asked_last e h = rw e (asked_at (s.length - 1) (omega arith))

  pub weighed : Figures j bytes table
  weighed = record { weight = omega (arith, r.settings.weight, r.settings.fine); size = r.figures; small = r.low }

  pub opened : (place : List ℕ) → Places place path s.length → Open path place s.length s.current
  opened place p = record {
    room = omega (arith, r.short, r.wide);
    short = omega (arith, r.short, sized-cells r.sized);
    cell = free_few _ _ r.sized r.here;
    places = p;
    new = λ k h. (r.fair k h).other;
  }

  -- the current cell has a figure
  pub current_in : s.current < length table
  current_in = omega (arith, free-below (floor_of j bytes) s.current r.here, r.figures)

  pub table-short : length table ≤ 4096
  table-short = omega (arith, r.figures, sized-cells r.sized)

pub quota-low : {j : Job} → Settings j → j.q * j.quota ≤ 16000000
quota-low h = mul-le-mul h.fine h.within

-- such a cell is at no goal
aside : {j : Job} {bytes : List ℕ} {s : ℕ} → Asked j bytes s → at_goal j bytes s ≡ false
aside {j} {bytes} {s} a = at_goal_lem j bytes s a.start ∙ a.apart

pub near-place : {j : Job} {bytes : List ℕ} {s x : ℕ} → Asked j bytes s → Near j bytes s x → x < 4096
near-place {j} {bytes} {s} {x} a h = omega (arith, window-inside j bytes s a.shallow (free-below (floor_of j bytes) s a.start) (aside a) x h, sized-cells a.sized)

pub aimed-near : {j : Job} {bytes : List ℕ} {s : ℕ} {table : List ℕ} {a : Ahead} → Aimed j bytes s table a → Near j bytes s a.target
aimed-near a = omega (arith, a.on_last)

-- where a ring is empty no cell is on the last one
pub lost : {j : Job} {bytes : List ℕ} {l : ℕ} (x : ℕ) → Asked j bytes l → empty_ring j bytes (seen j bytes l) (seen j bytes l).last ≡ true
    → eqb (ring j bytes (seen j bytes l) x) (seen j bytes l).last ≡ false
lost {j} {bytes} {l} x a e = by (eqb (ring j bytes (seen j bytes l) x) (seen j bytes l).last) refl
  where
    by : (b : Bool) → eqb (ring j bytes (seen j bytes l) x) (seen j bytes l).last ≡ b → b ≡ false
    by true q = absurd (never e (nine_not j bytes l a.shallow (free-below (floor_of j bytes) l a.start) (aside a) x (eqb-true _ _ q)))
    by false q = refl

-- a cell on the last ring is in the window
pub shows_last : {j : Job} {bytes : List ℕ} {l x base : ℕ} {mark cost : List ℕ} {on : Bool} → on ≡ eqb (ring j bytes (seen j bytes l) x) (seen j bytes l).last → on ≡ true → Asked j bytes l
    → Seen j bytes l base mark cost → Shows j bytes l x base mark cost
shows_last {j} {bytes} {l} {x} is e a h = record { asked = a; seen = h; near = omega (arith, eqb-true (ring j bytes (seen j bytes l) x) (seen j bytes l).last (sym is ∙ e)) }

-- ---- the ways through

module _ {j : Job} {bytes : List ℕ} {s : State} where
  pub acts_as : {d d' : Deed} {r : Acted} {table path : List ℕ} → d ≡ d' → Acts j bytes s d' r table path → Acts j bytes s d r table path
  acts_as e h = rw e h

  pub acts_refused : {r : Acted} {number base : ℕ} (table path : List ℕ) → r ≡ refusing s number base → Acts j bytes s (refused s table path number) r table path
  acts_refused table path q = rw q (record { answer = refl; way = refl; state = refl; rise = refl; cost = refl; table = refl; path = refl })

  pub serves_refused : {r : Acted} {number base : ℕ} {scratch : Scratch} {place path : List ℕ} → r ≡ refusing s number base → Used base scratch.mark scratch.cost scratch.list
      → Places place path s.length → Serves j bytes s r scratch place path
  serves_refused q u p = rw q (record { used = u; places = p; shown = record { window = tt } })

  pub acts_arrived : {table path : List ℕ} {base : ℕ} {there : Bool} → free (floor_of j bytes) s.current ≡ true → there ≡ member s.current (goals j) → there ≡ true
      → Acts j bytes s (act j bytes s table path) (record { answer = A.Arrived; state = s; rise = 0; cost = 0; base = base }) table path
  acts_arrived {table} {path} h e t = acts_as (act-arrived j bytes s table path (at_goal_lem j bytes s.current h ∙ sym e ∙ t))
      (record { answer = refl; way = refl; state = refl; rise = refl; cost = refl; table = refl; path = refl })

  pub acts_blind : {r : Acted} {base : ℕ} {table path : List ℕ} → Asked j bytes s.current → empty_ring j bytes (seen j bytes s.current) (seen j bytes s.current).last ≡ true
      → r ≡ refusing s 9 base → Acts j bytes s (act j bytes s table path) r table path
  acts_blind {table = table} {path = path} a e q = acts_as (act_blind j bytes s table path (aside a) e) (acts_refused table path q)

  module _ {path : List ℕ} (table : List ℕ) (new : ℕ) {a : ℕ} (risen : a ≡ rise table s.current new) {table' : List ℕ} (made : table' ≡ stored table s.current new) {base : ℕ} where
    acts_stay : Acts j bytes s (stay s table path new) (record { answer = A.Stayed a; state = s; rise = a; cost = 0; base = base }) table' path
    unfolding stay
    acts_stay = record { answer = ap A.Stayed (sym risen); way = refl; state = refl; rise = risen; cost = refl; table = made; path = refl }

    pub acts_stays : s.length ≡ 0 → Acts j bytes s (go_back j bytes s table path new) (record { answer = A.Stayed a; state = s; rise = a; cost = 0; base = base }) table' path
    acts_stays e = acts_as (back-stays j bytes s table path new (eq-eqb s.length 0 e)) acts_stay

    acts_back : (l : ℕ) {leg : ℕ} → leg ≡ w j bytes (seen j bytes l) s.current
        → Acts j bytes s (back_out j bytes s (seen j bytes l) table path new l)
        (record { answer = A.BackedOut l a 0; state = record { current = l; learned = s.learned; length = s.length - 1 }; rise = a; cost = leg; base = base }) table' path
    unfolding back_out_by
    acts_back l e = record {
      answer = ap (λ u. A.BackedOut l u (length (way_back j bytes l s.current))) (sym risen);
      way = refl;
      state = refl;
      rise = risen;
      cost = e;
      table = made;
      path = refl;
    }

    pub acts_forward : {t leg len : ℕ} {path' place' : List ℕ} → Extended path s.length s.current t path' place' len → leg ≡ w j bytes (seen j bytes s.current) t
        → Acts j bytes s (forward j bytes s (seen j bytes s.current) table path new t)
        (record { answer = A.Forward t a 0; state = record { current = t; learned = s.learned + a; length = len }; rise = a; cost = leg; base = base }) table' path'
    unfolding forward_by
    acts_forward {t} x e = record {
      answer = ap (λ u. A.Forward t u (length (moves_to j bytes s.current t))) (sym risen);
      way = refl;
      state = ap₂ (λ u n. record { current = t; learned = s.learned + u; length = n }) risen x.length;
      rise = risen;
      cost = e;
      table = made;
      path = x.written;
    }

    -- back out to the path's last cell l: the current cell is on its last ring
    pub acts_returns : {l leg : ℕ} {on : Bool} → l ≡ get_or path (s.length - 1) 0 → 1 ≤ s.length → on ≡ eqb (ring j bytes (seen j bytes l) s.current) (seen j bytes l).last → on ≡ true
        → leg ≡ w j bytes (seen j bytes l) s.current
        → Acts j bytes s (go_back j bytes s table path new)
        (record { answer = A.BackedOut l a 0; state = record { current = l; learned = s.learned; length = s.length - 1 }; rise = a; cost = leg; base = base }) table' path
    acts_returns {l} last some is on e =
        acts_as
        (back-goes j bytes s table path new (ne_eqb s.length 0 (λ e. omega arith)) (rw last at (sym is ∙ on))
        ∙ sym (ap (λ y. back_out j bytes s (seen j bytes y) table path new y) last)) (acts_back l e)

  -- it is not on that ring
  pub acts_lost : {r : Acted} {table path : List ℕ} {l b : ℕ} {on : Bool} (new : ℕ) → l ≡ get_or path (s.length - 1) 0 → 1 ≤ s.length
      → on ≡ eqb (ring j bytes (seen j bytes l) s.current) (seen j bytes l).last → on ≡ false → r ≡ refusing s 8 b → Acts j bytes s (go_back j bytes s table path new) r table path
  acts_lost {table = table} {path = path} new last some is off q =
      acts_as (back_lost j bytes s table path new (ne_eqb s.length 0 (λ e. omega arith)) (rw last at (sym is ∙ off))) (acts_refused table path q)

-- ---- from the tests to the deed

module _ (j : Job) (bytes : List ℕ) (s : State) (table path : List ℕ) where
  pub act-full : {base : ℕ} {mark cost list : List ℕ} {n last : ℕ} → Asked j bytes s.current → Window j bytes s.current base mark cost list n last
      → act j bytes s table path ≡ learns j bytes s table path
  unfolding learns
  act-full a h = act-learns j bytes s table path (aside a) (rw h.last_is at h.full)

  as_learn : {a : Ahead} → Aimed j bytes s.current table a → learns j bytes s table path ≡ learn j bytes s (seen j bytes s.current) table path a.figure a.target
  unfolding learns
  as_learn h = ap₂ (learn j bytes s (seen j bytes s.current) table path) (sym h.figure) (sym h.target)

-- past the lookahead: the figure that is stored, whether the new one passes the ceiling, and the rise
module _ {j : Job} {bytes : List ℕ} {s : State} {table : List ℕ} (path : List ℕ) {a : Ahead} {old : ℕ} {high : Bool} (aimed : Aimed j bytes s.current table a)
    (at : old ≡ get_or table s.current 0) (over : high ≡ (ltb old a.figure && ltb ceiling a.figure)) where
  pub learns_over : {r : Acted} {base : ℕ} → high ≡ true → r ≡ refusing s 10 base → Acts j bytes s (learns j bytes s table path) r table path
  learns_over e q =
      acts_as (as_learn j bytes s table path aimed ∙ learn_over j bytes s table path _ a.figure _ (rw (← at, ← over) e)) (acts_refused table path q)

  module _ (low : high ≡ false) {u : ℕ} (risen : u ≡ a.figure - old) where
    pub learns-forward : {r : Acted} {table' path' : List ℕ} → s.learned + u ≤ j.q * j.quota
        → Acts j bytes s (forward j bytes s (seen j bytes s.current) table path a.figure a.target) r table' path' → Acts j bytes s (learns j bytes s table path) r table' path'
    learns-forward h =
        let within : s.learned + rise table s.current a.figure ≤ j.q * j.quota = omega arith in
        acts_as (as_learn j bytes s table path aimed ∙ learn-forward j bytes s table path _ a.figure _ (rw (← at, ← over) low) (le-leb _ _ within))

    pub learns-back : {r : Acted} {table' path' : List ℕ} → j.q * j.quota < s.learned + u → Acts j bytes s (go_back j bytes s table path a.figure) r table' path'
        → Acts j bytes s (learns j bytes s table path) r table' path'
    learns-back h =
        let past : j.q * j.quota < s.learned + rise table s.current a.figure = omega arith in
        acts_as (as_learn j bytes s table path aimed ∙ learn-back j bytes s table path _ a.figure _ (rw (← at, ← over) low) (lt-leb _ _ past))

-- ---- the public call

module _ (j : Job) (bytes : List ℕ) (s : State) (table path moves : List ℕ) (from : ℕ) where
  pub decides_acts : {r : Acted} {n : ℕ} {a : Answer} {table' path' moves' : List ℕ} → Acts j bytes s (act j bytes s table path) r table' path'
      → Lays moves from (way_of j bytes s.current r.answer) moves' n → a ≡ counts r.answer n
      → Decides (outcome_of (Ok tt) (act j bytes s table path) s table path moves from) (record { answer = a; state = r.state }) table' path' moves'
  decides_acts {r} h y e = record {
    answer = ap says_answer (e ∙ ap (counts r.answer) (y.count ∙ ap length (sym h.way)) ∙ sym h.answer);
    state = h.state;
    table = h.table;
    path = h.path;
    moves = y.moves ∙ ap (laid moves from) (sym h.way);
  }

  pub decides_refused : {v : Verdict} {place : List ℕ} (q : Refusal) → Judged j bytes s table path (length moves) from place v → v ≡ Err q
      → Decides (decide j bytes s table path moves from) (record { answer = A.Refused q; state = s }) table path moves
  decides_refused q h e =
      rw (decide-refused j bytes s table path moves from q (sym h.verdict ∙ e)) (record { answer = refl; state = refl; table = refl; path = refl; moves = refl })

  pub decides_past : {v : Verdict} {place : List ℕ} {r : Decided} {table' path' moves' : List ℕ} → Judged j bytes s table path (length moves) from place v → v ≡ Ok tt
      → Decides (outcome_of (Ok tt) (act j bytes s table path) s table path moves from) r table' path' moves' → Decides (decide j bytes s table path moves from) r table' path' moves'
  decides_past g e h = rw (decide_acts j bytes s table path moves from (sym g.verdict ∙ e)) h
