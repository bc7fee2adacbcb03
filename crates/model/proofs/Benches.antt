-- The goals of a job: which they are, what 4 and 27 say of them, and that these leave goals which are cells of the floor, one or more, and rise.
-- Assumes nothing.
use Prim.Native.Nat.{ℕ, ◌≤◌, ◌<◌, min}
use mathlib.Core.Path.{◌≡◌, refl, sym, ap, ◌∙◌, subst}
use mathlib.Core.Bool.{true, ◌&&◌}
use mathlib.Core.List.{List, [], ◌∷◌}
use native.Mathlib.Omega.{arith}
use borrow.Author.Tests.{lt-ltb}
use lib.Dec.{T, ltb}
use lib.ListN.{length, get_or, length-take}
use lib.Seq.{get_or-take}
use Rattle.learning.specs.Ground.{Goal}
use Rattle.learning.proofs.Spread.{second-true}
use Rattle.answers.specs.declared.Goals.{Goals}
use Rattle.answers.specs.declared.Job.{Job}
use Rattle.model.specs.Basics.{member}
use Rattle.model.specs.Floor.{Floor, size, free, places_for, goals_of, one_goal}
use Rattle.model.specs.Grounds.{ground_of}
use Rattle.model.specs.Checks.{most_goals, floor_of, goals, benches, places, goals_hold, Benched}
use Rattle.model.specs.Decision.{at_goal}
use Rattle.model.proofs.Moves.{is_true, free-below}
use Rattle.model.proofs.Accepted.{Judges, is_tells, between_tells, and_tells, told, unless_judges}
use Rattle.model.proofs.Lists.{every_tells, member-place, Rises, rising_tells}

-- ---- the goals that a job names

pub goals_many : (g : Goals) → length (goals_of g) ≡ min g.count most_goals
unfolding goals_of
goals_many g = length-take g.count (places_for g)

pub goal_at_lem : (g : Goals) (i k : ℕ) → i ≡ k → i < length (goals_of g) → get_or (goals_of g) i 0 ≡ get_or (places_for g) k 0
unfolding goals_of
goal_at_lem g i k e h = get_or-take g.count (places_for g) i 0 (omega (arith, h, goals_many g)) ∙ ap (λ (j : ℕ). get_or (places_for g) j 0) e

pub goals_one : (goal : ℕ) → goals_of (one_goal goal) ≡ goal ∷ []
unfolding goals_of
goals_one goal = refl

-- ---- 4: each is free

abbrev pub AllFree : Floor → List ℕ → Type 0
AllFree f gs = (i : ℕ) → i < length gs → free f (get_or gs i 0) ≡ true

pub bench_judges : (f : Floor) (gs : List ℕ) → Judges (benches f gs) 4 (AllFree f gs)
unfolding benches
bench_judges f gs = unless_judges _ 4 (every_tells (free f) (λ x. is_tells (free f x)) gs)

pub places_judges : (f : Floor) (x : ℕ) (gs : List ℕ) → Judges (places f x gs) 4 ((free f x ≡ true) × AllFree f gs)
unfolding places
places_judges f x gs = unless_judges _ 4 (and_tells (is_tells (free f x)) (every_tells (free f) (λ y. is_tells (free f y)) gs))

-- past the first cell, the goals are left
pub places_next : (f : Floor) (x : ℕ) (gs : List ℕ) → free f x ≡ true → places f x gs ≡ benches f gs
unfolding places benches
places_next f x gs e = rw e

-- ---- 27: one to four, and they rise

pub record InOrder (g : Goals) : Type 0 where
  pub one : 1 ≤ g.count
  pub few : g.count ≤ most_goals
  pub rise : Rises (goals_of g)

pub goals_judges : (g : Goals) → Judges (goals_hold g) 27 (InOrder g)
unfolding goals_hold
goals_judges g =
    unless_judges _ 27
    (told (and_tells (between_tells 1 g.count most_goals) (rising_tells (goals_of g))) (λ h. record { one = h.0.0; few = h.0.1; rise = h.1 }) (λ h. ((h.one, h.few), h.rise)))

-- one goal alone is in order
pub one_in_order : (goal : ℕ) → InOrder (one_goal goal)
one_in_order goal = record { one = omega arith; few = omega arith; rise = λ k h. absurd (omega (arith, h, ap length (goals_one goal))) }

-- what both leave
pub benched : (f : Floor) (g : Goals) → AllFree f (goals_of g) → InOrder g → Benched (size f) (goals_of g)
benched f g free h = record {
  one = omega (arith, goals_many g, h.one);
  on = λ i l. free-below f (get_or (goals_of g) i 0) (free i l);
  rise = h.rise;
}

-- ---- a cell is a goal of the ground just where it is one of the list and on the floor

module _ (f : Floor) (gs : List ℕ) where
  pub goal_means : (x : ℕ) → Goal (ground_of f gs) x → member x gs ≡ true
  goal_means x t = is_true _ (second-true (ltb x (size f)) (member x gs) t)

  pub goal_is : (x : ℕ) → x < size f → member x gs ≡ true → Goal (ground_of f gs) x
  goal_is x h e = subst T (sym (ap (λ b. b && member x gs) (lt-ltb x (size f) h) ∙ e)) tt

  -- a free cell at a place of the list
  pub goal-free : AllFree f gs → (x : ℕ) → member x gs ≡ true → free f x ≡ true
  goal-free h x e = let (k, l, i) = member-place x gs e in ap (free f) i ∙ h k l

pub at_goal_lem : (j : Job) (bytes : List ℕ) (x : ℕ) → free (floor_of j bytes) x ≡ true → at_goal j bytes x ≡ member x (goals j)
at_goal_lem j bytes x e = ap (λ b. b && member x (goals j)) (lt-ltb x (size (floor_of j bytes)) (free-below (floor_of j bytes) x e))
