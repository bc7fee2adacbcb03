-- What opening a job, a trial and a run judge, 1 to 7, and filling a table: each limit on both sides, each fault alone, and the lower number first.
-- Limits that several calls share are tried on one of them.
use Prim.Native.Nat.{ℕ}
use mathlib.Core.Path.{◌≡◌, refl}
use mathlib.Core.List.{List, [], ◌∷◌}
use lib.ListN.{length, set, replicate, take}
use Rattle.answers.specs.declared.Job.{Job}
use Rattle.answers.specs.declared.Place.{Place}
use Rattle.answers.specs.declared.Place.TheVariants as P
use Rattle.answers.specs.Outcomes.{Verdict}
use Rattle.std.specs.Prelude.{Ok, Err}
use Rattle.answers.specs.declared.Report.{Report}
use Rattle.model.specs.Floor.{one_goal}
use Rattle.model.specs.Opening.{distances, open_job, open_run, open_table, filled}
use Rattle.model.specs.Ride.{trial, run}
use Rattle.model.specs.Compute.{compute}
use Rattle.worked.proofs.Hall.{hall, job, opening_of, figures, fresh, no, shut, boxed, blank}

-- filling the table of a free floor
abbrev fills : (width height bytes table : ℕ) → Verdict
fills width height bytes table = open_table (record { width = width; height = height; bytes = replicate bytes 0 }) 1 (one_goal 0) table

-- what filling a table of the worked floor answers, and the table after
abbrev filling : (q goal : ℕ) → (table : List ℕ) → Verdict × List ℕ
filling q goal table =
    let v = open_table (record { width = 3; height = 3; bytes = hall }) q (one_goal goal) (length table) in
    (v, filled v (record { width = 3; height = 3; bytes = hall }) q (one_goal goal) table)

-- opening a job by its settings on one free cell, the goal
abbrev sets : (depth p q quota : ℕ) → Verdict
sets depth p q quota = open_job (record { width = 1; height = 1; goals = one_goal 0; depth = depth; p = p; q = q; quota = quota }) (0 ∷ []) 0 (0 ∷ [])

-- opening a run on the worked floor, its lists by their lengths
abbrev runs : (depth path trials records : ℕ) → Verdict
runs depth path trials records = open_run (job depth 1 1 0) hall 6 figures (replicate path 77) trials records

abbrev goal_at : ℕ → Job
goal_at goal = record { width = 3; height = 3; goals = one_goal goal; depth = 1; p = 1; q = 1; quota = 1000 }

-- opening a job on four cells, two by two, from start to the cell 0, with the last cell's figure; and the true distances there
abbrev square : Job
square = record { width = 2; height = 2; goals = one_goal 0; depth = 1; p = 1; q = 1; quota = 0 }

abbrev across : List ℕ → (start figure : ℕ) → Verdict
across bytes start figure = open_job square bytes start (0 ∷ 10 ∷ 10 ∷ figure ∷ [])

-- a refused trial and a refused run leave their lists as lent
abbrev TrialRefused : Job → List ℕ → (start : ℕ) → (table path : List ℕ) → (number : ℕ) → Place → Type 0
TrialRefused j bytes start table path number place =
    trial j bytes start table path ≡ record { answer = Err (record { number = number; place = place }); table = table; path = path }

abbrev RunRefused : Job → List ℕ → (start trials : ℕ) → (table path : List ℕ) → (reports : List Report) → (number : ℕ) → Place → Type 0
RunRefused j bytes start trials table path reports number place =
    run j bytes start trials table path reports
    ≡ record { answer = Err (record { number = number; place = place }); table = table; path = path; reports = reports }

pub record PinsOpening : Type 0 where
  -- Width and height 1 to 64
  pub least_size : fills 1 1 1 1 ≡ Ok tt
  pub greatest-size : fills 64 64 4096 4096 ≡ Ok tt
  pub width_0 : fills 0 1 0 0 ≡ no 1 P.Nowhere
  pub height_0 : fills 1 0 0 0 ≡ no 1 P.Nowhere
  pub width_65 : fills 65 1 65 65 ≡ no 1 P.Nowhere
  pub height_65 : fills 1 65 65 65 ≡ no 1 P.Nowhere
  -- 1: floor or table length not width × height
  pub floor-short : fills 3 2 5 6 ≡ no 1 P.Nowhere
  pub floor-long : fills 3 2 7 6 ≡ no 1 P.Nowhere
  pub table-short : fills 3 2 6 5 ≡ no 1 P.Nowhere
  pub table-long : fills 3 2 6 7 ≡ no 1 P.Nowhere
  -- Depth d 1 to 8. Weight p/q with 1 ≤ p ≤ q ≤ 16. Quota T 0 to 1,000,000
  pub settings-least : sets 1 1 1 0 ≡ Ok tt
  pub settings-greatest : sets 8 16 16 1000000 ≡ Ok tt
  pub depth_0 : sets 0 1 1 0 ≡ no 3 P.Nowhere
  pub depth_9 : sets 9 1 1 0 ≡ no 3 P.Nowhere
  pub p_0 : sets 1 0 1 0 ≡ no 3 P.Nowhere
  pub p_above_q : sets 1 3 2 0 ≡ no 3 P.Nowhere
  pub p_below_q : sets 1 1 16 0 ≡ Ok tt
  pub q_17 : sets 1 1 17 0 ≡ no 3 P.Nowhere
  pub p_17 : sets 1 17 17 0 ≡ no 3 P.Nowhere
  pub quota-above : sets 1 1 1 1000001 ≡ no 3 P.Nowhere
  -- opening a job: 1 before 3 before 4 before 5 before 6 before 7
  pub job_1_3 : open_job (job 0 1 1 0) hall 6 (take 8 figures) ≡ no 1 P.Nowhere
  pub job_3_4 : open_job (job 0 1 1 0) hall 3 figures ≡ no 3 P.Nowhere
  pub job_4_5 : open_job (goal_at 0) hall 3 (set figures 8 1834561) ≡ no 4 P.Nowhere
  pub start_off : open_job (goal_at 0) hall 9 figures ≡ no 4 P.Nowhere
  pub goal_blocked : open_job (goal_at 4) hall 6 figures ≡ no 4 P.Nowhere
  pub goal_off : open_job (goal_at 9) hall 6 figures ≡ no 4 P.Nowhere
  pub job_5_6 : open_job (goal_at 0) shut 6 (set (set figures 5 1834561) 8 1834561) ≡ no 5 (P.Cell 5)
  pub job_6_7 : open_job (goal_at 0) shut 6 (set figures 1 11) ≡ no 6 P.Nowhere
  -- 7: a cell that can reach the goal is above its true figure; names the lowest
  pub seven_lowest : open_job (goal_at 0) hall 6 (set (set figures 7 51) 5 31) ≡ no 7 (P.Cell 5)
  pub seven_goal : open_job (goal_at 0) hall 6 (set figures 0 1) ≡ no 7 (P.Cell 0)
  pub seven_last : open_job (goal_at 0) hall 6 (set figures 8 41) ≡ no 7 (P.Cell 8)
  -- its true figure is q times its true distance
  pub seven_scaled : open_job (job 1 1 2 0) hall 6 (set (opening_of (job 1 1 2 0) hall) 7 101) ≡ no 7 (P.Cell 7)
  pub seven_met : open_job (job 1 1 2 0) hall 6 (set (opening_of (job 1 1 2 0) hall) 7 100) ≡ Ok tt
  -- 6: no walk from the start, here since each diagonal from it passes two blocked cells
  pub shut_in : open_job (goal_at 0) boxed 4 figures ≡ no 6 P.Nowhere
  -- a true distance is 14 by a diagonal, and 20 by two straights where a cell beside the diagonal is blocked; with both blocked there is none (113 stands for that)
  pub by_diagonal : distances square (0 ∷ 0 ∷ 0 ∷ 0 ∷ []) ≡ 0 ∷ 10 ∷ 10 ∷ 14 ∷ []
  pub by_straights : distances square (0 ∷ 1 ∷ 0 ∷ 0 ∷ []) ≡ 0 ∷ 113 ∷ 10 ∷ 20 ∷ []
  pub by_none : distances square (0 ∷ 1 ∷ 1 ∷ 0 ∷ []) ≡ 0 ∷ 113 ∷ 113 ∷ 113 ∷ []
  pub diagonal-met : across (0 ∷ 0 ∷ 0 ∷ 0 ∷ []) 3 14 ≡ Ok tt
  pub diagonal-above : across (0 ∷ 0 ∷ 0 ∷ 0 ∷ []) 3 15 ≡ no 7 (P.Cell 3)
  pub straights_met : across (0 ∷ 1 ∷ 0 ∷ 0 ∷ []) 3 20 ≡ Ok tt
  pub straights_above : across (0 ∷ 1 ∷ 0 ∷ 0 ∷ []) 3 21 ≡ no 7 (P.Cell 3)
  pub none_from : across (0 ∷ 1 ∷ 1 ∷ 0 ∷ []) 3 14 ≡ no 6 P.Nowhere
  pub none_beside : across (0 ∷ 1 ∷ 1 ∷ 0 ∷ []) 0 1834560 ≡ Ok tt
  -- cells that cannot reach it, and blocked ones, may stand as high as the ceiling
  pub unreaching : open_job (goal_at 0) shut 1 (set (set figures 3 1834560) 6 1834560) ≡ Ok tt
  -- a trial also judges its path list, after 1 and before 3
  pub trial_1_2 : TrialRefused (job 0 1 1 0) hall 6 (take 8 figures) [] 1 P.Nowhere
  pub trial_2_3 : TrialRefused (job 0 1 1 0) hall 6 figures (replicate 8 77) 2 P.Nowhere
  pub trial_3_4 : TrialRefused (job 0 1 1 0) hall 3 figures fresh 3 P.Nowhere
  pub trial_4 : TrialRefused (goal_at 0) hall 3 figures fresh 4 P.Nowhere
  pub trial_5 : TrialRefused (goal_at 0) hall 6 (set figures 4 1834561) fresh 5 (P.Cell 4)
  -- a run its path list, then its reports, its settings and its trials, 1 to 1,000
  pub run_1_2 : RunRefused (job 0 1 1 0) hall 6 0 (take 8 figures) [] [] 1 P.Nowhere
  pub run-path : RunRefused (job 0 1 1 0) hall 6 1 figures (replicate 8 77) (blank ∷ []) 2 P.Nowhere
  pub run-reports : RunRefused (job 0 1 1 0) hall 6 2 figures fresh (blank ∷ []) 2 P.Nowhere
  pub run-settings : RunRefused (job 0 1 1 0) hall 3 1 figures fresh (blank ∷ []) 3 P.Nowhere
  pub run_trials_0 : RunRefused (job 1 1 1 0) hall 3 0 figures fresh (blank ∷ []) 3 P.Nowhere
  pub run_4 : RunRefused (job 1 1 1 0) hall 3 1 figures fresh (blank ∷ []) 4 P.Nowhere
  pub run_5 : RunRefused (goal_at 0) hall 6 1 (set figures 4 1834561) fresh (blank ∷ []) 5 (P.Cell 4)
  pub reports_meet : runs 1 9 10 10 ≡ Ok tt
  pub reports-short : runs 1 9 10 9 ≡ no 2 P.Nowhere
  -- reports shorter than trials, before the trials' own range
  pub reports_first : runs 1 9 1001 1000 ≡ no 2 P.Nowhere
  pub trials_1000 : runs 1 9 1000 1000 ≡ Ok tt
  pub trials_1001 : runs 1 9 1001 1001 ≡ no 3 P.Nowhere
  -- Filling a table with opening figures: 1 before 3, q alone, before 4, the goal alone
  pub fill_1_3 : open_table (record { width = 3; height = 3; bytes = hall }) 0 (one_goal 0) 8 ≡ no 1 P.Nowhere
  pub fill_3_4 : open_table (record { width = 3; height = 3; bytes = hall }) 17 (one_goal 4) 9 ≡ no 3 P.Nowhere
  pub fill_q_0 : open_table (record { width = 3; height = 3; bytes = hall }) 0 (one_goal 0) 9 ≡ no 3 P.Nowhere
  pub fill_q_16 : open_table (record { width = 3; height = 3; bytes = hall }) 16 (one_goal 0) 9 ≡ Ok tt
  pub fill_blocked : open_table (record { width = 3; height = 3; bytes = hall }) 1 (one_goal 4) 9 ≡ no 4 P.Nowhere
  pub fill_off : open_table (record { width = 3; height = 3; bytes = hall }) 1 (one_goal 9) 9 ≡ no 4 P.Nowhere
  -- 14 × the smaller + 10 × the difference, on a floor wider than high
  pub fill : filled (Ok tt) (record { width = 4; height = 2; bytes = replicate 8 0 }) 3 (one_goal 5) (replicate 8 9) ≡ 42 ∷ 30 ∷ 42 ∷ 72 ∷ 30 ∷ 0 ∷ 30 ∷ 60 ∷ []
  pub fill_all : filling 1 0 (replicate 9 5) ≡ (Ok tt, figures)
  -- a refused table stays as lent
  pub fill-short : filling 1 0 (replicate 8 5) ≡ (no 1 P.Nowhere, replicate 8 5)
  pub fill-scale : filling 17 0 (replicate 9 5) ≡ (no 3 P.Nowhere, replicate 9 5)
  pub fill-refused : filling 1 4 (replicate 9 5) ≡ (no 4 P.Nowhere, replicate 9 5)

pub pins_opening : PinsOpening
unfolding compute
pins_opening = record {
  least_size = refl;
  greatest-size = refl;
  width_0 = refl;
  height_0 = refl;
  width_65 = refl;
  height_65 = refl;
  floor-short = refl;
  floor-long = refl;
  table-short = refl;
  table-long = refl;
  settings-least = refl;
  settings-greatest = refl;
  depth_0 = refl;
  depth_9 = refl;
  p_0 = refl;
  p_above_q = refl;
  p_below_q = refl;
  q_17 = refl;
  p_17 = refl;
  quota-above = refl;
  job_1_3 = refl;
  job_3_4 = refl;
  job_4_5 = refl;
  start_off = refl;
  goal_blocked = refl;
  goal_off = refl;
  job_5_6 = refl;
  job_6_7 = refl;
  seven_lowest = refl;
  seven_goal = refl;
  seven_last = refl;
  seven_scaled = refl;
  seven_met = refl;
  shut_in = refl;
  by_diagonal = refl;
  by_straights = refl;
  by_none = refl;
  diagonal-met = refl;
  diagonal-above = refl;
  straights_met = refl;
  straights_above = refl;
  none_from = refl;
  none_beside = refl;
  unreaching = refl;
  trial_1_2 = refl;
  trial_2_3 = refl;
  trial_3_4 = refl;
  trial_4 = refl;
  trial_5 = refl;
  run_1_2 = refl;
  run-path = refl;
  run-reports = refl;
  run-settings = refl;
  run_trials_0 = refl;
  run_4 = refl;
  run_5 = refl;
  reports_meet = refl;
  reports-short = refl;
  reports_first = refl;
  trials_1000 = refl;
  trials_1001 = refl;
  fill_1_3 = refl;
  fill_3_4 = refl;
  fill_q_0 = refl;
  fill_q_16 = refl;
  fill_blocked = refl;
  fill_off = refl;
  fill = refl;
  fill_all = refl;
  fill-short = refl;
  fill-scale = refl;
  fill-refused = refl;
}
