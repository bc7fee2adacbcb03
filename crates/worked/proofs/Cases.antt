-- The worked cases P1 to P12 of document 01, worked again with document 02's corners, together as one proved list. All hold by computing.
-- Where a value is not document 01's, its line says so.
use Prim.Native.Nat.{ℕ}
use mathlib.Core.Path.{◌≡◌, refl}
use mathlib.Core.Bool.{Bool, true, false}
use mathlib.Core.List.{List, [], ◌∷◌, ◌++◌, map}
use lib.ListN.{set, replicate}
use Rattle.learning.specs.Ground.{list_of}
use Rattle.answers.specs.declared.Job.{Job}
use Rattle.answers.specs.declared.Place.TheVariants as P
use Rattle.answers.specs.declared.Answer.TheVariants as A
use Rattle.answers.specs.Outcomes.{Verdict}
use Rattle.std.specs.Prelude.{Ok}
use Rattle.model.specs.Decision.{Outcome, decide, at_goal}
use Rattle.model.specs.Opening.{open_job, open_trial, open_run}
use Rattle.model.specs.Ride.{begun, ride_from, trial}
use Rattle.model.specs.Compute.{compute}
use Rattle.worked.proofs.Hall.{hall, job, opening_of, figures, state, fresh, buffer, leaves, no, shut, first_of, made, learnt}

-- the decision after it
abbrev pub second_of : Job → Outcome
second_of j = let o = first_of j in decide j hall o.state o.table o.path o.moves 2

-- whether the trial from 6 is at the goal after 0, 1, .. n - 1 decisions: its first `true` stands at the number that it takes
abbrev pub arrivals : Job → ℕ → List Bool
arrivals j n = map (λ k. at_goal j hall (ride_from j hall k (begun 6 (opening_of j hall) fresh)).state.current) (list_of n (λ k. k))

-- all three calls that open a job, with room enough, answer the same
pub record Opens (j : Job) (bytes : List ℕ) (start : ℕ) (table : List ℕ) (answer : Verdict) : Type 0 where
  pub job : open_job j bytes start table ≡ answer
  pub trial : open_trial j bytes start table fresh ≡ answer
  pub run : open_run j bytes start table fresh 10 10 ≡ answer

pub record Cases : Type 0 where
  -- P1. Opening figures with q 1: 6:20, 7:24, 8:28.
  pub p1 : opening_of (job 1 1 1 1000) hall ≡ 0 ∷ 10 ∷ 20 ∷ 10 ∷ 14 ∷ 24 ∷ 20 ∷ 24 ∷ 28 ∷ []
  -- P2. d 1, p/q 1/1, T 1000, first decision: figure of 6 becomes 34, forward to 7.
  pub p2 : first_of (job 1 1 1 1000) ≡ leaves (A.Forward 7 14 1) (state 7 14 1) (set figures 6 34) (6 ∷ replicate 8 77) (9 ∷ 2 ∷ replicate 288 9)
  -- P3. Then at 7: 38 again, forward to 8. (5 no longer ties with it: 4 stands beside that diagonal.)
  pub p3 : second_of (job 1 1 1 1000)
      ≡ leaves (A.Forward 8 14 1) (state 8 28 2) (set (set figures 6 34) 7 38) (6 ∷ 7 ∷ replicate 7 77) (9 ∷ 2 ∷ 2 ∷ replicate 287 9)
  -- P4. T 13, first decision: stays, figure 34, u 0.
  pub p4 : first_of (job 1 1 1 13) ≡ leaves (A.Stayed 14) (state 6 0 0) (set figures 6 34) fresh buffer
  -- P5. T 14: forward, u 14.
  pub p5 : first_of (job 1 1 1 14) ≡ leaves (A.Forward 7 14 1) (state 7 14 1) (set figures 6 34) (6 ∷ replicate 8 77) (9 ∷ 2 ∷ replicate 288 9)
  -- P6. T 27: trial of 9 decisions (7).
  pub p6 : (trial (job 1 1 1 27) hall 6 (opening_of (job 1 1 1 27) hall) fresh
      ≡ made 9 54 60 80 (set (set (set (set figures 5 30) 6 48) 7 38) 8 34) (6 ∷ 7 ∷ 8 ∷ 5 ∷ 2 ∷ 1 ∷ replicate 3 77))
      × (arrivals (job 1 1 1 27) 11 ≡ replicate 9 false ++ true ∷ true ∷ [])
  -- P7. T 28: 18 decisions, learned 84, kept 60, travel 160 (4, 28, 48, 48).
  pub p7 : (trial (job 1 1 1 28) hall 6 (opening_of (job 1 1 1 28) hall) fresh
      ≡ made 18 84 60 160 learnt (6 ∷ 7 ∷ 8 ∷ 5 ∷ 2 ∷ 1 ∷ replicate 3 77))
      × (arrivals (job 1 1 1 28) 20 ≡ replicate 18 false ++ true ∷ true ∷ [])
  -- P8. d 2, T 1000, first decision: figure of 6 becomes 48, target 8, moves 2 2 (target 5, moves 2 1).
  pub p8 : first_of (job 2 1 1 1000) ≡ leaves (A.Forward 8 28 2) (state 8 28 1) (set figures 6 48) (6 ∷ replicate 8 77) (9 ∷ 2 ∷ 2 ∷ replicate 287 9)
  -- P9. p/q 1/2, d 1, first decision: figure of 6 goes from 40 to 58.
  pub p9 : (opening_of (job 1 1 2 1000) hall ≡ 0 ∷ 20 ∷ 40 ∷ 20 ∷ 28 ∷ 48 ∷ 40 ∷ 48 ∷ 56 ∷ [])
      × (first_of (job 1 1 2 1000)
      ≡ leaves (A.Forward 7 18 1) (state 7 18 1) (0 ∷ 20 ∷ 40 ∷ 20 ∷ 28 ∷ 48 ∷ 58 ∷ 48 ∷ 56 ∷ []) (6 ∷ replicate 8 77) (9 ∷ 2 ∷ replicate 288 9))
  -- P10. Figure 51 at cell 7 opens with 7, cell 7 (39, which is accepted now);
  pub p10 : Opens (job 1 1 1 1000) hall 6 (set figures 7 51) (no 7 (P.Cell 7)) × Opens (job 1 1 1 1000) hall 6 (set figures 7 39) (Ok tt)
  -- P11. figure 50 is accepted (38, which still is).
  pub p11 : Opens (job 1 1 1 1000) hall 6 (set figures 7 50) (Ok tt) × Opens (job 1 1 1 1000) hall 6 (set figures 7 38) (Ok tt)
  -- P12. Middle row `@@@`: 6.
  pub p12 : Opens (job 1 1 1 1000) shut 6 figures (no 6 P.Nowhere)

pub cases : Cases
unfolding compute
cases = record {
  p1 = refl;
  p2 = refl;
  p3 = refl;
  p4 = refl;
  p5 = refl;
  p6 = (refl, refl);
  p7 = (refl, refl);
  p8 = refl;
  p9 = (refl, refl);
  p10 = (record { job = refl; trial = refl; run = refl }, record { job = refl; trial = refl; run = refl });
  p11 = (record { job = refl; trial = refl; run = refl }, record { job = refl; trial = refl; run = refl });
  p12 = record { job = refl; trial = refl; run = refl };
}
