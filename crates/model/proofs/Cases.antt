-- A decision, case by case: what its checks and each test past them lead to.
-- Proofs of code and of trials go by these equations, and leave the definitions shut.
use Prim.Native.Nat.{ℕ, ◌+◌, ◌-◌, ◌*◌}
use mathlib.Core.Path.{◌≡◌}
use mathlib.Core.Bool.{true, false, ◌&&◌}
use mathlib.Core.List.{List}
use lib.Dec.{ltb, leb, eqb}
use lib.ListN.{length, get_or}
use Rattle.learning.specs.Ground.{View}
use Rattle.answers.specs.declared.Job.{Job}
use Rattle.answers.specs.declared.State.{State}
use Rattle.answers.specs.declared.Refusal.{Refusal}
use Rattle.std.specs.Prelude.{Ok, Err}
use Rattle.answers.specs.declared.Answer.TheVariants as A
use Rattle.model.specs.Checks.{ceiling}
use Rattle.model.specs.Lookahead.{seen, ring, empty_ring, new_figure, target}
use Rattle.model.specs.Decision.{at_goal, judge, unchanged, refused, rise, forward, back_out, stay, go_back, go_back_by, learn, learn_by, act, act_by, outcome_of, decide, decide_by}

module _ (j : Job) (bytes : List ℕ) (s : State) (table path : List ℕ) where
  pub act-arrived : at_goal j bytes s.current ≡ true → act j bytes s table path ≡ unchanged s table path A.Arrived
  unfolding act_by
  act-arrived e = rw (e, act_by)

  pub act_blind : at_goal j bytes s.current ≡ false → empty_ring j bytes (seen j bytes s.current) (seen j bytes s.current).last ≡ true
      → act j bytes s table path ≡ refused s table path 9
  unfolding act_by
  act_blind e f = rw (e, f, act_by)

  pub act-learns : at_goal j bytes s.current ≡ false → empty_ring j bytes (seen j bytes s.current) (seen j bytes s.current).last ≡ false
      → act j bytes s table path
      ≡ learn j bytes s (seen j bytes s.current) table path (new_figure j bytes (seen j bytes s.current) table) (target j bytes (seen j bytes s.current) table)
  unfolding act_by
  act-learns e f = rw (e, f, act_by)

  module _ (v : View) (new t : ℕ) where
    pub learn_over : (ltb (get_or table s.current 0) new && ltb ceiling new) ≡ true → learn j bytes s v table path new t ≡ refused s table path 10
    unfolding learn_by
    learn_over e = rw (e, learn_by)

    pub learn-forward : (ltb (get_or table s.current 0) new && ltb ceiling new) ≡ false → leb (s.learned + rise table s.current new) (j.q * j.quota) ≡ true
        → learn j bytes s v table path new t ≡ forward j bytes s v table path new t
    unfolding learn_by
    learn-forward e f = rw (e, f, learn_by)

    pub learn-back : (ltb (get_or table s.current 0) new && ltb ceiling new) ≡ false → leb (s.learned + rise table s.current new) (j.q * j.quota) ≡ false
        → learn j bytes s v table path new t ≡ go_back j bytes s table path new
    unfolding learn_by
    learn-back e f = rw (e, f, learn_by)

  module _ (new : ℕ) where
    -- the cell taken off
    abbrev last_cell : ℕ
    last_cell = get_or path (s.length - 1) 0

    pub back-stays : eqb s.length 0 ≡ true → go_back j bytes s table path new ≡ stay s table path new
    unfolding go_back_by
    back-stays e = rw (e, go_back_by)

    pub back_lost : eqb s.length 0 ≡ false → eqb (ring j bytes (seen j bytes last_cell) s.current) (seen j bytes last_cell).last ≡ false
        → go_back j bytes s table path new ≡ refused s table path 8
    unfolding go_back_by
    back_lost e f = rw (e, f, go_back_by)

    pub back-goes : eqb s.length 0 ≡ false → eqb (ring j bytes (seen j bytes last_cell) s.current) (seen j bytes last_cell).last ≡ true
        → go_back j bytes s table path new ≡ back_out j bytes s (seen j bytes last_cell) table path new last_cell
    unfolding go_back_by
    back-goes e f = rw (e, f, go_back_by)

  -- a refused call, and one that is let through
  pub decide-refused : (moves : List ℕ) (from : ℕ) (r : Refusal) → judge j bytes s table path (length moves) from ≡ Err r
      → decide j bytes s table path moves from ≡ record { answer = A.Refused r; state = s; table = table; path = path; moves = moves }
  unfolding decide_by
  decide-refused moves from r e = rw (e, decide_by)

  pub decide_acts : (moves : List ℕ) (from : ℕ) → judge j bytes s table path (length moves) from ≡ Ok tt
      → decide j bytes s table path moves from ≡ outcome_of (Ok tt) (act j bytes s table path) s table path moves from
  unfolding decide_by
  decide_acts moves from e = rw (e, decide_by)
