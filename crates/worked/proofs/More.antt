-- The other worked lines of document 01, worked again with document 02's corners, by computing.
use mathlib.Core.Path.{◌≡◌, refl}
use mathlib.Core.Bool.{true}
use mathlib.Core.List.{[], ◌∷◌, ◌++◌}
use lib.ListN.{replicate}
use Rattle.answers.specs.declared.Place.TheVariants as P
use Rattle.answers.specs.Outcomes.{made_run}
use Rattle.std.specs.Prelude.{Ok}
use Rattle.model.specs.Floor.{one_goal}
use Rattle.model.specs.Checks.{floor_of}
use Rattle.model.specs.Decision.{decide}
use Rattle.model.specs.Opening.{distances, open_job}
use Rattle.model.specs.Ride.{run}
use Rattle.model.specs.TableFile.{write_table}
use Rattle.model.specs.Line.{aisle}
use Rattle.model.specs.Compute.{compute}
use Rattle.worked.proofs.Hall.{hall, job, figures, state, fresh, buffer, leaves, no, refuses, row_job, blank, learnt, worked_file, hall_text}
use Rattle.worked.proofs.Cases.{Opens}
use Rattle.worked.proofs.Text.{bytes}

pub record More : Type 0 where
  -- True distances: 1:10, 2:20, 5:30, 7:50, 6:60, 8:40 (5, 7, 6 and 8 had 24, 38, 48 and 34); 253 stands for a cell that has none.
  pub distance : distances (job 1 1 1 0) hall ≡ 0 ∷ 10 ∷ 20 ∷ 253 ∷ 253 ∷ 30 ∷ 60 ∷ 50 ∷ 40 ∷ []
  -- One row `.@.`, current 0, goal 2: 9.
  pub nine : decide (row_job 3 2 1 0) (0 ∷ 1 ∷ 0 ∷ []) (state 0 0 0) (20 ∷ 10 ∷ 0 ∷ []) fresh buffer 0
      ≡ leaves (refuses 9 P.Nowhere) (state 0 0 0) (20 ∷ 10 ∷ 0 ∷ []) fresh buffer
  -- One row `..@.`, d 1, current 0, goal 3, cells 0 and 1 at 1,834,560: 10.
  pub ten : decide (row_job 4 3 1 0) (0 ∷ 0 ∷ 1 ∷ 0 ∷ []) (state 0 0 0) (1834560 ∷ 1834560 ∷ 10 ∷ 0 ∷ []) fresh buffer 0
      ≡ leaves (refuses 10 P.Nowhere) (state 0 0 0) (1834560 ∷ 1834560 ∷ 10 ∷ 0 ∷ []) fresh buffer
  -- d 0 or 9, p 2 with q 1: 3.
  pub depth_0 : Opens (job 0 1 1 1000) hall 6 figures (no 3 P.Nowhere)
  pub depth_9 : Opens (job 9 1 1 1000) hall 6 figures (no 3 P.Nowhere)
  pub weight : Opens (job 1 2 1 1000) hall 6 figures (no 3 P.Nowhere)
  -- Width 65: 1.
  pub width_65 : open_job (row_job 65 0 1 0) (replicate 65 0) 0 (replicate 65 0) ≡ no 1 P.Nowhere
  -- the run below: two records, the later ones untouched
  pub worked_run : run (job 1 1 1 0) hall 6 10 figures fresh (replicate 11 blank) ≡ record {
    answer = made_run 2 true;
    table = learnt;
    path = 6 ∷ 7 ∷ 8 ∷ 5 ∷ 2 ∷ 1 ∷ replicate 3 77;
    reports = record { decisions = 22; learned = 84; kept = 60; travel = 180 } ∷ record { decisions = 6; learned = 0; kept = 60; travel = 60 } ∷ replicate 9 blank;
  }
  -- After the run below the table file is 00 05 00 00 00 1E, 00 06 00 00 00 3C, 00 07 00 00 00 32, 00 08 00 00 00 28, 03 03 00 00 01 01 00 04 00 00 00 28 50 44 4C 54
  -- (two records, 48 of 6 and 38 of 7).
  pub file : write_table (floor_of (job 1 1 1 0) hall) 1 (one_goal 0) learnt (replicate 50 5) ≡ record { answer = Ok 48; buffer = worked_file ++ 5 ∷ 5 ∷ [] }
  -- `6 0 1 1 1 0 10` and the floor above give, whole (`262176 8 42 48 68`, `2176 4 0 48 48`, `settled 2`):
  pub printed : aisle (bytes "6 0 1 1 1 0 10\n" ++ hall_text) ≡ bytes "262266220466220066 22 84 60 180\n220066 6 0 60 60\nsettled 2\n"

pub more : More
unfolding compute
more = record {
  distance = refl;
  nine = refl;
  ten = refl;
  depth_0 = record { job = refl; trial = refl; run = refl };
  depth_9 = record { job = refl; trial = refl; run = refl };
  weight = record { job = refl; trial = refl; run = refl };
  width_65 = refl;
  worked_run = refl;
  file = refl;
  printed = refl;
}
