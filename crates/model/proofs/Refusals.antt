-- A call makes checks that come first in the order and ends with one whose numbers come later: what it answers from these on is what that last check answers.
-- Every opening has checks ahead of 6 and ends with `soundness`, which alone has 6 and 7; the reader has checks ahead of 15 and ends with the records, 18 to 22.
-- A law of one check before others, applied check by check. Assumes nothing.
use Prim.Native.Nat.{ℕ, ◌+◌, ◌*◌, ◌≤◌, ◌<◌}
use mathlib.Core.Path.{◌≡◌, refl, ap}
use mathlib.Core.Bool.{Bool, true, false}
use mathlib.Core.List.{List}
use native.Mathlib.Omega.{arith}
use lib.Dec.{ltb, eqb}
use lib.ListN.{length}
use Rattle.learning.specs.Ground.{pick}
use Rattle.learning.specs.Look.{lowest}
use Rattle.answers.specs.declared.Job.{Job}
use Rattle.answers.specs.declared.Refusal.{Refusal}
use Rattle.answers.specs.declared.Place.TheVariants as P
use Rattle.answers.specs.Outcomes.{Verdict}
use Rattle.std.specs.Prelude.{Ok, Err}
use Rattle.model.specs.Basics.{choose, then, refuse_at, naming}
use Rattle.model.specs.Floor.{Floor}
use Rattle.model.specs.Checks.{floor_of, goals, sizes, path_room, settings, figures}
use Rattle.model.specs.Opening.{soundness, accepts, open_job, open_trial, open_run}
use Rattle.model.proofs.Accepted.{not_refused, Judges, sizes_judges, path_judges, reports_judges, settings_judges, trials_judges}
use Rattle.model.proofs.Benches.{places_judges, goals_judges}

-- where a number stands in the order of checks: the lower number first, but that 27 stands directly after 4, and 28 directly after 13
unfoldable pub turn_of : ℕ → ℕ
turn_of n = pick (eqb n 27) (2 * 4 + 1) (pick (eqb n 28) (2 * 13 + 1) (2 * n))

pub ahead-between : (turn_of 13 < turn_of 28) × (turn_of 28 < turn_of 14)
unfolding turn_of
ahead-between = (omega arith, omega arith)

-- nothing is refused by a number ahead of n; and a check all of whose numbers are
abbrev pub NothingAhead : ℕ → Verdict → Type 0
NothingAhead n v = (r : Refusal) → v ≡ Err r → turn_of n ≤ turn_of r.number

pub record Early (n : ℕ) (v : Verdict) : Type 0 where
  pub ahead : (r : Refusal) → v ≡ Err r → turn_of r.number < turn_of n

pub early : {n : ℕ} {v : Verdict} {number : ℕ} {F : Type 0} → Judges v number F → turn_of number < turn_of n → Early n v
early {number = number} j h = record {
  ahead = λ r e. let g = j.refused (λ f. not_refused (j.done f) e) in let same : number ≡ r.number = cc in omega (arith, h, ap turn_of same);
}

early-naming : (n : ℕ) (fault : ℕ → Bool) (number : ℕ) → turn_of number < turn_of 6 → Early 6 (naming n fault number)
unfolding naming
early-naming n fault number h = by (ltb (lowest n fault) n)
  where
    by : (b : Bool) → Early 6 (choose b (refuse_at number (P.Cell (lowest n fault))) (Ok tt))
    by true = record { ahead = λ r e. let f : number ≡ r.number = cc in omega (arith, h, ap turn_of f) }
    by false = record { ahead = λ r e. not_refused refl e }

pub early_then : {n : ℕ} (a : Verdict) {b : Verdict} → Early n a → Early n b → Early n (then a b)
early_then (Ok _) g h = h
early_then (Err s) g h = g

-- A check v that ends with the check w, after others whose numbers come ahead of n: a refusal from n on is w's, and where nothing ahead is refused the answer is w's.
pub record Ends (n : ℕ) (w v : Verdict) : Type 0 where
  pub only : {r : Refusal} → turn_of n ≤ turn_of r.number → v ≡ Err r → w ≡ Err r
  pub just : NothingAhead n v → v ≡ w

pub last : {n : ℕ} (w : Verdict) → Ends n w w
last w = record { only = λ h e. e; just = λ h. refl }

pub after : {n : ℕ} (a : Verdict) {w v : Verdict} → Early n a → Ends n w v → Ends n w (then a v)
after (Ok _) early g = g
after (Err s) early g = record { only = λ {r} h e. absurd (omega (arith, early.ahead r e)); just = λ h. absurd (omega (arith, h s refl, early.ahead s refl)) }

-- what one of the three openings answers
pub data IsOpening (j : Job) (bytes : List ℕ) (start : ℕ) (table : List ℕ) : Verdict → Type 0 where
  by_open : IsOpening j bytes start table (open_job j bytes start table)
  by_trial : (path : List ℕ) → IsOpening j bytes start table (open_trial j bytes start table path)
  by_run : (path : List ℕ) (trials records : ℕ) → IsOpening j bytes start table (open_run j bytes start table path trials records)

module _ (j : Job) (bytes : List ℕ) (start : ℕ) (table : List ℕ) where
  abbrev f : Floor
  f = floor_of j bytes

  sized : Early 6 (sizes f (length table))
  unfolding turn_of
  sized = early (sizes_judges f (length table)) (omega arith)

  roomy : (path : List ℕ) → Early 6 (path_room f (length path))
  unfolding turn_of
  roomy path = early (path_judges f (length path)) (omega arith)

  set : Early 6 (settings j)
  unfolding turn_of
  set = early (settings_judges j) (omega arith)

  accepts-ends : Ends 6 (soundness j bytes start table) (accepts j bytes start table)
  unfolding accepts figures turn_of
  accepts-ends =
      after _ (early (places_judges f start (goals j)) (omega arith))
      (after _ (early (goals_judges j.goals) (omega arith)) (after _ (early-naming _ _ 5 (omega arith)) (last _)))

  pub ends_with_soundness : {v : Verdict} → IsOpening j bytes start table v → Ends 6 (soundness j bytes start table) v
  unfolding open_job open_trial open_run turn_of
  ends_with_soundness by_open = after _ sized (after _ set accepts-ends)
  ends_with_soundness (by_trial path) = after _ sized (after _ (roomy path) (after _ set accepts-ends))
  ends_with_soundness (by_run path trials records) =
      after _ sized
      (after _ (roomy path) (after _ (early (reports_judges trials records) (omega arith)) (after _ set (after _ (early (trials_judges trials) (omega arith)) accepts-ends))))
