-- Trials made one after another on the worked floor: which of them learn, what is left to learn, and that the settled one is made again.
use Prim.Native.Nat.{ℕ, ◌+◌, ◌-◌}
use mathlib.Core.Path.{◌≡◌, refl}
use mathlib.Core.Bool.{true}
use mathlib.Core.List.{[], ◌∷◌, map}
use lib.ListN.{get_or, replicate}
use Rattle.learning.specs.Rounds.{after_rounds, learners}
use Rattle.answers.specs.declared.Answer.TheVariants as A
use Rattle.answers.specs.Outcomes.{made_run}
use Rattle.model.specs.Ride.{run}
use Rattle.model.specs.Settling.{Lists, leaves, learns, lists_after, trip, trips, trips_that_learn, answer_after, Tour, tour_on, first_learns, tour_trips_that_learn}
use Rattle.model.specs.Compute.{compute}
use Rattle.model.proofs.Demand.{R, K, distance}
use Rattle.worked.proofs.Hall.{hall, job, figures, fresh, learnt, blank, row_job}

abbrev lent : Lists
lent = record { table = figures; path = fresh }

abbrev by_turns : Tour
by_turns = record { lists = lent; starts = λ n. get_or (6 ∷ 8 ∷ 6 ∷ 8 ∷ 6 ∷ 8 ∷ 6 ∷ 8 ∷ []) n 0 }

pub record PinsSettling : Type 0 where
  -- any rounds: three that learn, and then none
  pub rounds : map (λ n. after_rounds (λ (x : ℕ). x - 1) n 3) (0 ∷ 1 ∷ 2 ∷ 3 ∷ 4 ∷ []) ≡ 3 ∷ 2 ∷ 1 ∷ 0 ∷ 0 ∷ []
  pub rounds_that_learn : map (λ n. learners (λ (x : ℕ). x - 1) (λ x. x + x) n 3) (0 ∷ 1 ∷ 2 ∷ 3 ∷ 4 ∷ []) ≡ 0 ∷ 1 ∷ 2 ∷ 3 ∷ 3 ∷ []
  -- R, K and the distance of 6 on the worked floor
  pub left_to_learn_lem : R (job 1 1 1 0) hall figures ≡ 84
  pub nothing_left : R (job 1 1 1 0) hall learnt ≡ 0
  pub factor : K (job 1 1 1 0) hall ≡ 7
  pub cheapest : distance (job 1 1 1 0) hall 6 ≡ 60
  -- with quota 0 the first trip learns all that there is, and the second is settled
  pub quota_0 : map (λ r. r.learned) (trips (job 1 1 1 0) hall 6 3 lent) ≡ 84 ∷ 0 ∷ 0 ∷ []
  -- with a quota that is never passed four trips learn, 84 together, and the fifth is settled
  pub no_quota : map (λ r. r.learned) (trips (job 1 1 1 1000) hall 6 6 lent) ≡ 40 ∷ 26 ∷ 12 ∷ 6 ∷ 0 ∷ 0 ∷ []
  pub no_quota_learners : map (λ n. trips_that_learn (job 1 1 1 1000) hall 6 n lent) (0 ∷ 1 ∷ 3 ∷ 6 ∷ []) ≡ 0 ∷ 1 ∷ 3 ∷ 4 ∷ []
  pub no_quota_left : map (λ r. R (job 1 1 1 1000) hall r.table) (trips (job 1 1 1 1000) hall 6 4 lent) ≡ 44 ∷ 18 ∷ 6 ∷ 0 ∷ []
  -- a row of which every figure is 1 too low: all R of its trips learn, and no fewer than R + 1 are enough
  pub all_of_R : R (row_job 4 0 1 1000) (replicate 4 0) (0 ∷ 9 ∷ 19 ∷ 29 ∷ []) ≡ 3
  pub all_of_R_learn : map (λ r. r.learned) (trips (row_job 4 0 1 1000) (replicate 4 0) 3 5 (record { table = 0 ∷ 9 ∷ 19 ∷ 29 ∷ []; path = fresh })) ≡ 1 ∷ 1 ∷ 1 ∷ 0 ∷ 0 ∷ []
  -- the lists that a trial leaves, and what the next makes of them
  pub left : leaves (job 1 1 1 0) hall 6 lent ≡ record { table = learnt; path = 6 ∷ 7 ∷ 8 ∷ 5 ∷ 2 ∷ 1 ∷ replicate 3 77 }
  pub learned : learns (job 1 1 1 0) hall 6 lent ≡ 84
  -- trips are counted from 0
  pub from_0 : map (λ n. (trip (job 1 1 1 0) hall 6 n lent).learned) (0 ∷ 1 ∷ []) ≡ 84 ∷ 0 ∷ []
  -- the settled trip, and two trips later again
  pub settled : map (λ n. trip (job 1 1 1 0) hall 6 n lent) (1 ∷ 3 ∷ [])
      ≡ replicate 2 (record {
        state = record { current = 0; learned = 0; length = 6 };
        table = learnt;
        path = 6 ∷ 7 ∷ 8 ∷ 5 ∷ 2 ∷ 1 ∷ replicate 3 77;
        decisions = 6;
        learned = 0;
        travel = 60;
        moves = 2 ∷ 2 ∷ 0 ∷ 0 ∷ 6 ∷ 6 ∷ [];
      })
  -- decision by decision: the first trip's stays and then goes on, the second's never stays
  pub first_answers : map (λ n. answer_after (job 1 1 1 0) hall 6 n lent) (0 ∷ 1 ∷ 2 ∷ 22 ∷ []) ≡ A.Stayed 14 ∷ A.Forward 7 0 1 ∷ A.BackedOut 6 14 1 ∷ A.Arrived ∷ []
  pub second_answers : map (λ n. answer_after (job 1 1 1 0) hall 6 n (lists_after (job 1 1 1 0) hall 6 1 lent)) (0 ∷ 1 ∷ 5 ∷ 6 ∷ [])
      ≡ A.Forward 7 0 1 ∷ A.Forward 8 0 1 ∷ A.Forward 0 0 1 ∷ A.Arrived ∷ []
  -- from 6 and from 8 by turns they learn 40, 6, 26, 0, 12 and then nothing, 84 together
  pub by_turns_lem : map (λ n. tour_trips_that_learn (job 1 1 1 1000) hall n by_turns) (0 ∷ 1 ∷ 2 ∷ 8 ∷ []) ≡ 0 ∷ 1 ∷ 2 ∷ 4 ∷ []
  pub by_turns_learned : first_learns (job 1 1 1 1000) hall (tour_on (job 1 1 1 1000) hall by_turns) ≡ 6
  -- a run with more than R trials asked for answers settled
  pub more_than_R : (run (job 1 1 1 1000) hall 6 85 figures fresh (replicate 85 blank)).answer ≡ made_run 5 true

pub pins_settling : PinsSettling
unfolding compute R K
pins_settling = record {
  rounds = refl;
  rounds_that_learn = refl;
  left_to_learn_lem = refl;
  nothing_left = refl;
  factor = refl;
  cheapest = refl;
  quota_0 = refl;
  no_quota = refl;
  no_quota_learners = refl;
  no_quota_left = refl;
  all_of_R = refl;
  all_of_R_learn = refl;
  left = refl;
  learned = refl;
  from_0 = refl;
  settled = refl;
  first_answers = refl;
  second_answers = refl;
  by_turns_lem = refl;
  by_turns_learned = refl;
  more_than_R = refl;
}
