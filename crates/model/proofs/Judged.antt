-- The whole decision call is never refused in a trial: its checks hold wherever a ride stands.
-- Every cell of the path can reach a goal, so it is free; none is a goal, none comes twice, and none is the current cell.
use Prim.Native.Nat.{ℕ, ◌+◌, ◌≤◌, ◌<◌}
use mathlib.Core.Path.{◌≡◌, refl, ap, ap₂, ◌∙◌}
use mathlib.Core.Logic.{◌≢◌}
use mathlib.Core.Bool.{Bool, true, false, not, ◌&&◌, ◌||◌}
use mathlib.Core.List.{List}
use native.Mathlib.Omega.{arith}
use borrow.Author.Tests.{le-leb, le-ltb, ne_eqb}
use lib.Dec.{ltb, eqb}
use lib.ListN.{length, get_or}
use Rattle.learning.specs.Walk.{Walk, stop, move, Any}
use Rattle.learning.specs.Path.{All, end, also, Distinct, alone, apart}
use Rattle.learning.specs.Trial.{CanReach}
use Rattle.learning.specs.Ground.{Goal, net_of}
use Rattle.learning.proofs.Paths.{all_map, all_init, distinct-init, distinct_last}
use Rattle.learning.proofs.Trials.{Keeps}
use Rattle.learning.proofs.Never.{path_aside}
use Rattle.answers.specs.declared.Job.{Job}
use Rattle.answers.specs.declared.State.{State}
use Rattle.std.specs.Prelude.{Ok}
use Rattle.model.specs.Basics.{every, member, distinct, unless}
use Rattle.model.specs.Floor.{size, free}
use Rattle.model.specs.Grounds.{price-free}
use Rattle.model.specs.Checks.{ceiling, floor_of, goals, ground_in, places, figures}
use Rattle.model.specs.Decision.{at_goal, on_path, moves_room, state_holds, judge, least_room}
use Rattle.model.specs.Ride.{learning_job}
use Rattle.model.proofs.Moves.{is_true}
use Rattle.model.proofs.Accepted.{then_next, sizes_judges, path_judges, settings_judges, naming-done}
use Rattle.model.proofs.Benches.{places_judges, goals_judges, goal_means, goal-free}
use Rattle.model.proofs.Openings.{Held}
use Rattle.model.proofs.Steps.{as_state, short, here, is_false}

-- ---- tests over lists

all_every : (test : ℕ → Bool) {xs : List ℕ} → All (λ x. test x ≡ true) xs → every test xs ≡ true
unfolding every
all_every test end = refl
all_every test (also h k) = ap₂ ◌&&◌ h (all_every test k)

absent : {x : ℕ} {xs : List ℕ} → All (λ y. x ≢ y) xs → member x xs ≡ false
unfolding member
absent end = refl
absent {x} (also {x = y} h k) = ap₂ ◌||◌ (ne_eqb x y h) (absent k)

distinct-true : {xs : List ℕ} → Distinct xs → distinct xs ≡ true
unfolding distinct
distinct-true alone = refl
distinct-true (apart h k) = ap₂ (λ a b. not a && b) (absent h) (distinct-true k)

all_and : {P Q : ℕ → Type 0} {xs : List ℕ} → All P xs → All Q xs → All (λ x. P x × Q x) xs
all_and end end = end
all_and (also h k) (also i l) = also (h, i) (all_and k l)

-- ---- in a trial

module _ (j : Job) (bytes : List ℕ) (H : Held j bytes) where
  -- a cell that can reach a goal is free
  reach-free : (x : ℕ) → CanReach (learning_job j bytes) x → free (floor_of j bytes) x ≡ true
  reach-free x (c, (z, g, (n, t))) = by g t
    where
      by : {z c n : ℕ} → Goal (ground_in j bytes) z → Walk (net_of (ground_in j bytes)) Any x z c n → free (floor_of j bytes) x ≡ true
      by g (stop s) = goal-free (floor_of j bytes) (goals j) H.benches x (goal_means (floor_of j bytes) (goals j) x g)
      by g (move {b = b} s e k) = is_true _ (price-free (floor_of j bytes) x b (omega (arith, e.0, e.1)))

  module _ {start : ℕ} (s : State) (table path : List ℕ) (k : Keeps (learning_job j bytes) start (as_state s table path)) (room : size (floor_of j bytes) ≤ length path) where
    on_path_lem : All (λ x. (free (floor_of j bytes) x && not (at_goal j bytes x) && not (eqb x s.current)) ≡ true) (on_path s path)
    on_path_lem =
        all_map (λ x h. ap₂ ◌&&◌ (ap₂ ◌&&◌ (reach-free x h.0) (ap not (is_false (at_goal j bytes x) h.1.0))) (ap not (ne_eqb x s.current h.1.1)))
        (all_and (all_init (on_path s path) s.current k.reach)
        (all_and (path_aside (learning_job j bytes) k.linked) (distinct_last (on_path s path) s.current k.distinct)))

    state-holds : state_holds j bytes s path ≡ Ok tt
    unfolding state_holds
    state-holds =
        ap (λ b. unless b 8)
        (ap₂ ◌&&◌
        (ap₂ ◌&&◌ (ap₂ ◌&&◌ (le-leb _ _ k.within) (le-leb s.length (size (floor_of j bytes)) (omega (arith, short j bytes H s table path k room)))) (all_every _ on_path_lem))
        (distinct-true (distinct-init (on_path s path) s.current k.distinct)))

    pub judged : ((x : ℕ) → x < size (floor_of j bytes) → get_or table x 0 ≤ ceiling) → (places from : ℕ) → from + least_room ≤ places
        → judge j bytes s table path places from ≡ Ok tt
    unfolding judge moves_room figures
    judged fits places from more =
        let f = floor_of j bytes in
        then_next _ ((sizes_judges f (length table)).done (H.sized, k.sound.size))
        ∙ then_next _ ((path_judges f (length path)).done room)
        ∙ then_next _ (ap (λ b. unless b 2) (le-leb (from + least_room) places more))
        ∙ then_next _ ((settings_judges j).done H.settings)
        ∙ then_next _ ((places_judges f s.current (goals j)).done (reach-free s.current (here j bytes H s table path k room), H.benches))
        ∙ then_next _ ((goals_judges j.goals).done H.order)
        ∙ then_next _ (naming-done (size f) (λ x. ltb ceiling (get_or table x 0)) 5 (λ x h. le-ltb ceiling (get_or table x 0) (fits x h)))
        ∙ state-holds
