-- The paper's Theorem 7.8, "the second trial of LRTS(T=0) .. is guaranteed to be final", fails at depth 2, from an opening table too: a job with quota 0 and weight 1/10
-- whose second trial learns.
-- (At depth 1, and with weight 1/1 at any depth, it holds from every table that is accepted: `with_quota_0_the_second_trip_is_final` of model.)
use Prim.Native.Nat.{ℕ}
use mathlib.Core.Path.{◌≡◌, refl, ap}
use mathlib.Core.List.{List, [], ◌∷◌, map}
use native.Mathlib.Omega.{arith}
use lib.ListN.{get_or, replicate}
use Rattle.answers.specs.declared.Job.{Job}
use Rattle.std.specs.Prelude.{Ok}
use Rattle.model.specs.Floor.{one_goal}
use Rattle.model.specs.Opening.{open_trial}
use Rattle.model.specs.Ride.{Ride}
use Rattle.model.specs.Settling.{Lists, trip, trips}
use Rattle.model.specs.Compute.{compute}
use Rattle.worked.proofs.Hall.{opening_of}

-- rows `...@@@`, `.@@@@@`, `...@..`, `@@....`; from 17 to 2
abbrev round : List ℕ
round = 0 ∷ 0 ∷ 0 ∷ 1 ∷ 1 ∷ 1 ∷ 0 ∷ 1 ∷ 1 ∷ 1 ∷ 1 ∷ 1 ∷ 0 ∷ 0 ∷ 0 ∷ 1 ∷ 0 ∷ 0 ∷ 1 ∷ 1 ∷ 0 ∷ 0 ∷ 0 ∷ 0 ∷ []

abbrev round_job : Job
round_job = record { width = 6; height = 4; goals = one_goal 2; depth = 2; p = 1; q = 10; quota = 0 }

abbrev lent : Lists
lent = record { table = opening_of round_job round; path = replicate 24 77 }

-- of a trial: its decisions, what it learned, and the figures of 16 and 17 that it left
abbrev told : Ride → List ℕ
told r = r.decisions ∷ r.learned ∷ get_or r.table 16 0 ∷ get_or r.table 17 0 ∷ []

pub record ThirdTrial : Type 0 where
  pub accepted : open_trial round_job round 17 lent.table lent.path ≡ Ok tt
  -- In the first trial 17 is left for 21 with figure 380, when its first ring's best is 10 + 280, by 16. Then 16 is raised to 390, from 21, which holds its own figure and
  -- goes on by 14. So in the second trial the first ring's best at 17 is 394, by 22, and 17 learns
  pub trials : map told (trips round_job round 17 3 lent) ≡ (9 ∷ 210 ∷ 390 ∷ 380 ∷ []) ∷ (6 ∷ 14 ∷ 390 ∷ 394 ∷ []) ∷ (5 ∷ 0 ∷ 390 ∷ 394 ∷ []) ∷ []

pub third-trial : ThirdTrial
unfolding compute
third-trial = record { accepted = refl; trials = refl }

-- so what the theorem says of every job is not so of those at depth 2, not even from opening tables
pub theorem_7_8_fails_at_depth_2 :
    ¬ ((j : Job) (bytes : List ℕ) (start : ℕ) (path : List ℕ) → open_trial j bytes start (opening_of j bytes) path ≡ Ok tt → j.depth ≡ 2 → j.quota ≡ 0
    → (trip j bytes start 1 (record { table = opening_of j bytes; path = path })).learned ≡ 0)
theorem_7_8_fails_at_depth_2 all =
    let second : (trip round_job round 17 1 lent).learned ≡ 14 = ap (λ rows. get_or (get_or rows 1 []) 1 0) third-trial.trials in
    omega (arith, second, all round_job round 17 lent.path third-trial.accepted refl refl)
