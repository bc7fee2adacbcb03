-- The decision's own checks: the room for moves, and the state's, number 8's first part, as facts about the path's places: each cell is fair, and no two are the same.
-- Such a path leaves room for the current cell, since its cells and the current one are different cells of the floor. Assumes nothing.
use Prim.Native.Nat.{ℕ, suc, ◌+◌, ◌*◌, ◌≤◌, ◌<◌}
use mathlib.Core.Path.{◌≡◌, sym, ap, ◌∙◌, subst}
use mathlib.Core.Logic.{◌≢◌}
use mathlib.Core.Bool.{true, false, not, ◌&&◌}
use mathlib.Core.List.{List, [], ◌∷◌}
use native.Mathlib.Omega.{arith}
use borrow.Author.Tests.{not-true}
use lib.Dec.{eqb}
use lib.ListN.{length, get_or, take}
use lib.Seq.{length-take-le, get_or-take}
use Rattle.learning.specs.Path.{also, Distinct, alone, apart}
use Rattle.learning.proofs.Count.{distinct-length}
use Rattle.learning.proofs.Paths.{all_of}
use Rattle.answers.specs.declared.Job.{Job}
use Rattle.answers.specs.declared.State.{State}
use Rattle.model.specs.Basics.{member}
use Rattle.model.specs.Floor.{Floor, size, free}
use Rattle.model.specs.Checks.{floor_of, goals}
use Rattle.model.specs.Decision.{at_goal, on_path, moves_room, state_holds, least_room}
use Rattle.model.proofs.Moves.{free-below}
use Rattle.model.proofs.Accepted.{Tells, Judges, le_tells, is_tells, and_tells, told, unless_judges}
use Rattle.model.proofs.Lists.{ne_tells, every_tells, distinct_tells}
use Rattle.model.proofs.Benches.{at_goal_lem}

-- A path's cell is free, no goal and not the current cell.
pub record Fair (j : Job) (bytes : List ℕ) (current x : ℕ) : Type 0 where
  pub free : free (floor_of j bytes) x ≡ true
  pub away : member x (goals j) ≡ false
  pub other : x ≡ current → ⊥

-- The cells of a path's first n places are fair, and no two are the same.
pub record Sound (j : Job) (bytes : List ℕ) (current : ℕ) (path : List ℕ) (n : ℕ) : Type 0 where
  pub fair : (k : ℕ) → k < n → Fair j bytes current (get_or path k 0)
  pub apart : (a b : ℕ) → a < b → b < n → get_or path a 0 ≡ get_or path b 0 → ⊥

pub record Held (j : Job) (bytes : List ℕ) (s : State) (path : List ℕ) : Type 0 where
  pub within : s.learned ≤ j.q * j.quota
  pub short : s.length ≤ size (floor_of j bytes)
  pub sound : Sound j bytes s.current path s.length

-- ---- 2, of the moves

pub moves_judges : (room from : ℕ) → Judges (moves_room room from) 2 (from + least_room ≤ room)
unfolding moves_room
moves_judges room from = unless_judges _ 2 (le_tells (from + least_room) room)

-- ---- the state's check

module _ (j : Job) (bytes : List ℕ) where
  abbrev f : Floor
  f = floor_of j bytes

  fair_tells : (current x : ℕ) → Tells (free f x && not (at_goal j bytes x) && not (eqb x current)) (Fair j bytes current x)
  fair_tells current x = told (and_tells (and_tells (is_tells (free f x)) (is_tells (not (at_goal j bytes x)))) (ne_tells x current)) to from
    where
      to : ((free f x ≡ true) × (not (at_goal j bytes x) ≡ true)) × (x ≡ current → ⊥) → Fair j bytes current x
      to h = record { free = h.0.0; away = sym (at_goal_lem j bytes x h.0.0) ∙ not-true _ h.0.1; other = h.1 }

      from : Fair j bytes current x → ((free f x ≡ true) × (not (at_goal j bytes x) ≡ true)) × (x ≡ current → ⊥)
      from h = ((h.free, ap not (at_goal_lem j bytes x h.free ∙ h.away)), h.other)

  module _ (s : State) (path : List ℕ) (wide : size f ≤ length path) where
    abbrev All-fair : Type 0
    All-fair = (k : ℕ) → k < length (on_path s path) → Fair j bytes s.current (get_or (on_path s path) k 0)

    abbrev All-apart : Type 0
    All-apart = (a b : ℕ) → a < b → b < length (on_path s path) → get_or (on_path s path) a 0 ≡ get_or (on_path s path) b 0 → ⊥

    pub held_judges : Judges (state_holds j bytes s path) 8 (Held j bytes s path)
    unfolding state_holds
    held_judges =
        unless_judges _ 8
        (told
        (and_tells
        (and_tells (and_tells (le_tells s.learned (j.q * j.quota)) (le_tells s.length (size f))) (every_tells _ (fair_tells s.current) (on_path s path)))
        (distinct_tells (on_path s path)))
        to
        from)
      where
        to : (((s.learned ≤ j.q * j.quota) × (s.length ≤ size f)) × All-fair) × All-apart → Held j bytes s path
        to h =
            let l : length (on_path s path) ≡ s.length = length-take-le s.length path (omega (arith, h.0.0.1)) in
            record {
              within = h.0.0.0;
              short = h.0.0.1;
              sound = record {
                fair = λ k m. subst (Fair j bytes s.current) (get_or-take s.length path k 0 m) (h.0.1 k (omega arith));
                apart = λ a b m n e. h.1 a b m (omega arith) (get_or-take s.length path a 0 (omega arith) ∙ e ∙ sym (get_or-take s.length path b 0 n));
              };
            }

        from : Held j bytes s path → (((s.learned ≤ j.q * j.quota) × (s.length ≤ size f)) × All-fair) × All-apart
        from h =
            let l : length (on_path s path) ≡ s.length = length-take-le s.length path (omega (arith, h.short)) in
            let at : (k : ℕ) → k < length (on_path s path) → get_or (on_path s path) k 0 ≡ get_or path k 0 = λ k m. get_or-take s.length path k 0 (omega arith) in (
              ((h.within, h.short), λ k m. subst (Fair j bytes s.current) (sym (at k m)) (h.sound.fair k (omega arith))),
              λ a b m n e. h.sound.apart a b m (omega arith) (sym (at a (omega arith)) ∙ e ∙ at b n),
            )

-- ---- room for the current cell

distinct_of : (xs : List ℕ) → ((a b : ℕ) → a < b → b < length xs → get_or xs a 0 ≡ get_or xs b 0 → ⊥) → Distinct xs
distinct_of [] h = alone
distinct_of (x ∷ xs) h = apart (all_of xs (λ k l. h 0 (suc k) (omega arith) (omega arith))) (distinct_of xs (λ a b l m. h (suc a) (suc b) (omega arith) (omega arith)))

-- the path's cells and the current one are different cells of the floor
module _ (j : Job) (bytes : List ℕ) (current : ℕ) (path : List ℕ) (n : ℕ) (wide : n ≤ length path) (h : Sound j bytes current path n) where
  at : (k : ℕ) → k < length (take n path) → get_or (take n path) k 0 ≡ get_or path k 0
  at k m = get_or-take n path k 0 (omega (arith, length-take-le n path wide))

  below : (k : ℕ) → k < length (take n path) → get_or (take n path) k 0 < size (floor_of j bytes)
  below k m = free-below _ _ (ap (free (floor_of j bytes)) (at k m) ∙ (h.fair k (omega (arith, length-take-le n path wide))).free)

  new : (k : ℕ) → k < length (take n path) → current ≢ get_or (take n path) k 0
  new k m e = (h.fair k (omega (arith, length-take-le n path wide))).other (sym (e ∙ at k m))

  different : (a b : ℕ) → a < b → b < length (take n path) → get_or (take n path) a 0 ≡ get_or (take n path) b 0 → ⊥
  different a b l m e = h.apart a b l (omega (arith, length-take-le n path wide)) (sym (at a (omega arith)) ∙ e ∙ at b m)

  pub sound-room : free (floor_of j bytes) current ≡ true → n < size (floor_of j bytes)
  sound-room here =
      omega (
        arith,
        length-take-le n path wide,
        distinct-length (size (floor_of j bytes)) (also (free-below _ current here) (all_of (take n path) below)) (apart (all_of (take n path) new) (distinct_of (take n path) different)),
      )
