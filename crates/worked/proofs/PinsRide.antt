-- What trial and run answer and leave, past their checks.
use Prim.Native.Nat.{ℕ}
use mathlib.Core.Path.{◌≡◌, refl}
use mathlib.Core.Bool.{true, false}
use mathlib.Core.List.{List, [], ◌∷◌}
use lib.ListN.{set, replicate}
use Rattle.answers.specs.declared.Job.{Job}
use Rattle.answers.specs.Outcomes.{made_run}
use Rattle.std.specs.Prelude.{Ok}
use Rattle.model.specs.Floor.{one_goal}
use Rattle.model.specs.Ride.{trial, run}
use Rattle.model.specs.Compute.{compute}
use Rattle.worked.proofs.Hall.{hall, job, opening_of, figures, fresh, made, row_job, blank, learnt, two_ways, two_ways_job, two_ways_table}

-- a job on rows `....`, `..@.`, `....`
abbrev pillar : List ℕ
pillar = 0 ∷ 0 ∷ 0 ∷ 0 ∷ 0 ∷ 0 ∷ 1 ∷ 0 ∷ 0 ∷ 0 ∷ 0 ∷ 0 ∷ []

abbrev pillar_job : Job
pillar_job = record { width = 4; height = 3; goals = one_goal 0; depth = 1; p = 1; q = 1; quota = 1000 }

pub record PinsRide : Type 0 where
  -- Start equal to goal gives one trial, all four 0
  pub at_goal_lem : trial (job 1 1 1 0) hall 0 figures fresh ≡ made 0 0 0 0 figures fresh
  pub run_at_goal : run (job 1 1 1 0) hall 0 2 figures fresh (blank ∷ blank ∷ [])
      ≡ record { answer = made_run 1 true; table = figures; path = fresh; reports = record { decisions = 0; learned = 0; kept = 0; travel = 0 } ∷ blank ∷ [] }
  -- a trial on a table of true figures, where nothing is left to learn, comes to the goal too
  pub nothing_left : trial (job 1 1 1 0) hall 6 learnt fresh ≡ made 6 0 60 60 learnt (6 ∷ 7 ∷ 8 ∷ 5 ∷ 2 ∷ 1 ∷ replicate 3 77)
  -- and one that learns least at each decision, backs out all the way and goes again: decisions until done
  pub there_and_back : trial (row_job 6 5 1 0) (replicate 6 0) 0 (49 ∷ 39 ∷ 29 ∷ 19 ∷ 9 ∷ 0 ∷ []) fresh
      ≡ made 14 5 50 130 (50 ∷ 40 ∷ 30 ∷ 20 ∷ 10 ∷ 0 ∷ []) (0 ∷ 1 ∷ 2 ∷ 3 ∷ 4 ∷ replicate 4 77)
  -- trials until the number asked for is used: one that learns more than 0 is not settled
  pub unsettled : run (job 1 1 1 0) hall 6 1 figures fresh (blank ∷ [])
      ≡ record {
        answer = made_run 1 false;
        table = learnt;
        path = 6 ∷ 7 ∷ 8 ∷ 5 ∷ 2 ∷ 1 ∷ replicate 3 77;
        reports = record { decisions = 22; learned = 84; kept = 60; travel = 180 } ∷ [];
      }
  -- the number asked for, though more records are lent
  pub records_to_spare : (run (job 1 1 1 0) hall 6 1 figures fresh (blank ∷ blank ∷ [])).answer ≡ made_run 1 false
  -- kept cost: the legs along the path at the end, each at its own cost
  pub kept : trial (job 2 1 1 1000) hall 6 figures fresh ≡ made 3 40 60 60 (set (set figures 6 48) 8 40) (6 ∷ 8 ∷ 2 ∷ replicate 6 77)
  -- seen at the job's own depth: 104 to 28, since 38, on the way that costs 100, is on ring 9
  pub kept-depth : (trial two_ways_job two_ways 40 two_ways_table (replicate 50 77)).answer ≡ Ok (record { decisions = 2; learned = 16; kept = 114; travel = 114 })
  -- travel: every move. Backing out is seen from the cell taken off: 20 from 1 to 5, though the goal beside 1 shuts 5 out of 1's own window
  pub own_window : trial (job 2 1 1 0) hall 5 (set (set figures 1 0) 5 30) fresh ≡ made 4 10 30 70 (set figures 5 30) (5 ∷ 1 ∷ replicate 7 77)
  -- until one learns 0: 1 is more than 0, though less than q
  pub not_settled : run (record { width = 2; height = 1; goals = one_goal 1; depth = 1; p = 2; q = 2; quota = 1000 }) (0 ∷ 0 ∷ []) 0 3 (19 ∷ 0 ∷ []) fresh (blank ∷ blank ∷ blank ∷ [])
      ≡ record {
        answer = made_run 2 true;
        table = 20 ∷ 0 ∷ [];
        path = 0 ∷ replicate 8 77;
        reports = record { decisions = 1; learned = 1; kept = 10; travel = 10 } ∷ record { decisions = 1; learned = 0; kept = 10; travel = 10 } ∷ blank ∷ [];
      }
  -- each trial goes on with the table and the path list that the one before left: the 1 is the second trial's fifth cell, and the third has four
  pub carried : run pillar_job pillar 11 5 (opening_of pillar_job pillar) (replicate 12 77) (replicate 5 blank)
      ≡ record {
        answer = made_run 3 true;
        table = 0 ∷ 10 ∷ 20 ∷ 30 ∷ 10 ∷ 14 ∷ 24 ∷ 40 ∷ 20 ∷ 24 ∷ 34 ∷ 44 ∷ [];
        path = 11 ∷ 10 ∷ 9 ∷ 4 ∷ 1 ∷ replicate 7 77;
        reports = record { decisions = 4; learned = 6; kept = 44; travel = 44 }
            ∷ record { decisions = 5; learned = 12; kept = 50; travel = 50 }
            ∷ record { decisions = 4; learned = 0; kept = 44; travel = 44 }
            ∷ blank
            ∷ blank
            ∷ [];
      }

pub pins_ride : PinsRide
unfolding compute
pins_ride = record {
  at_goal_lem = refl;
  run_at_goal = refl;
  nothing_left = refl;
  there_and_back = refl;
  unsettled = refl;
  records_to_spare = refl;
  kept = refl;
  kept-depth = refl;
  own_window = refl;
  not_settled = refl;
  carried = refl;
}
