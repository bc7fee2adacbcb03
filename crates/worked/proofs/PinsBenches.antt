-- Several benches: 27 in every call that takes goals, what goes by the nearest goal or by any, and edition 2 of the table file, read and written.
use Prim.Native.Nat.{ℕ, ◌+◌}
use mathlib.Core.Path.{◌≡◌, refl}
use mathlib.Core.Bool.{true}
use mathlib.Core.List.{List, [], ◌∷◌, ◌++◌, map}
use lib.ListN.{get_or, set, replicate, drop}
use Rattle.answers.specs.declared.Answer.TheVariants as A
use Rattle.answers.specs.declared.Goals.{Goals}
use Rattle.answers.specs.declared.Job.{Job}
use Rattle.answers.specs.declared.Place.TheVariants as P
use Rattle.answers.specs.Outcomes.{Verdict, made_run}
use Rattle.std.specs.Prelude.{Ok}
use Rattle.model.specs.Floor.{Floor, goals_of, opening_table}
use Rattle.model.specs.Checks.{floor_of}
use Rattle.model.specs.Opening.{distances, open_job, open_trial, open_run, open_table}
use Rattle.model.specs.Decision.{decide}
use Rattle.model.specs.Ride.{trial, run}
use Rattle.model.specs.TableFile.{check_first, check_trailer, find_records, read_verdict, read_table, write_verdict, write_table}
use Rattle.model.specs.Compute.{compute}
use Rattle.worked.proofs.Hall.{hall, figures, state, fresh, buffer, leaves, refuses, no, made, blank, learnt, worked_records, worked_file, first_file}

-- goals as they are named: a count and four places
abbrev named : (count first second third fourth : ℕ) → Goals
named count first second third fourth = record { count = count; first = first; second = second; third = third; fourth = fourth }

abbrev two : (first second : ℕ) → Goals
two first second = named 2 first second 7 7

-- a job with these goals on the worked floor
abbrev toward : Goals → Job
toward goals = record { width = 3; height = 3; goals = goals; depth = 1; p = 1; q = 1; quota = 1000 }

-- what opening it answers, from cell 6 with its own opening figures
abbrev opens : Goals → Verdict
opens goals = open_job (toward goals) hall 6 (opening_table (floor_of (toward goals) hall) 1 (goals_of goals))

abbrev floor : Floor
floor = record { width = 3; height = 3; bytes = hall }

-- rows `....`, `.@@@`, `....`, `....`: bench 3 is behind the racks, bench 12 is nearer for most cells
abbrev yard : List ℕ
yard = 0 ∷ 0 ∷ 0 ∷ 0 ∷ 0 ∷ 1 ∷ 1 ∷ 1 ∷ 0 ∷ 0 ∷ 0 ∷ 0 ∷ 0 ∷ 0 ∷ 0 ∷ 0 ∷ []

abbrev in_yard : Goals → Job
in_yard goals = record { width = 4; height = 4; goals = goals; depth = 1; p = 1; q = 1; quota = 1000000 }

abbrev both : Goals
both = two 3 12

abbrev yard_opening : List ℕ
yard_opening = 30 ∷ 20 ∷ 10 ∷ 0 ∷ 20 ∷ 24 ∷ 14 ∷ 10 ∷ 10 ∷ 14 ∷ 24 ∷ 20 ∷ 0 ∷ 10 ∷ 20 ∷ 30 ∷ []

-- what is learned from 11 with both benches, and with bench 3 alone after that
abbrev yard_learnt : List ℕ
yard_learnt = set yard_opening 11 34

abbrev yard_alone : List ℕ
yard_alone = 30 ∷ 20 ∷ 10 ∷ 0 ∷ 40 ∷ 24 ∷ 14 ∷ 10 ∷ 50 ∷ 60 ∷ 70 ∷ 80 ∷ 60 ∷ 64 ∷ 74 ∷ 70 ∷ []

-- the trailer of edition 2 for benches 0 and 8 of the worked floor, so many records; and reading a file of one record whose trailer has another byte at a place
abbrev trailer : (count back : ℕ) → List ℕ
trailer count back = 3 ∷ 3 ∷ 2 ∷ 0 ∷ 0 ∷ 0 ∷ 0 ∷ 8 ∷ 255 ∷ 255 ∷ 255 ∷ 255 ∷ 1 ∷ 2 ∷ 0 ∷ count ∷ 0 ∷ 0 ∷ 0 ∷ back ∷ 80 ∷ 68 ∷ 76 ∷ 84 ∷ []

abbrev reads : List ℕ → Verdict
reads file = read_verdict floor 1 (two 0 8) file 9

abbrev one_record : List ℕ
one_record = 0 ∷ 6 ∷ 0 ∷ 0 ∷ 0 ∷ 48 ∷ trailer 1 30

abbrev with : (place byte : ℕ) → Verdict
with place byte = reads (set one_record (6 + place) byte)

abbrev refused : ℕ → Verdict
refused number = no number P.Nowhere

pub record PinsBenches : Type 0 where
  -- 27: none, more than four, equal, out of order
  pub none_named : opens (named 0 0 1 2 5) ≡ refused 27
  pub five_named : opens (named 5 0 1 2 5) ≡ refused 27
  pub equal : map opens (two 5 5 ∷ named 3 0 8 8 7 ∷ []) ≡ refused 27 ∷ refused 27 ∷ []
  pub falling : map opens (two 8 0 ∷ named 3 0 8 5 7 ∷ named 4 0 1 8 2 ∷ []) ≡ refused 27 ∷ refused 27 ∷ refused 27 ∷ []
  pub one_to_four : map opens (named 1 0 0 0 0 ∷ two 0 8 ∷ named 3 0 5 8 0 ∷ named 4 0 1 5 8 ∷ []) ≡ Ok tt ∷ Ok tt ∷ Ok tt ∷ Ok tt ∷ []
  -- places past the count are not looked at
  pub places_past : opens (named 1 0 99 99 99) ≡ Ok tt
  -- after 4, which judges the first four; before 5
  pub four_first : map opens (two 8 4 ∷ named 5 0 1 2 9 ∷ named 4 0 1 2 3 ∷ []) ≡ refused 4 ∷ refused 4 ∷ refused 4 ∷ []
  pub start_first : open_job (toward (two 8 0)) hall 3 figures ≡ refused 4
  pub before_five : open_job (toward (two 8 0)) hall 6 (set figures 8 1834561) ≡ refused 27
  pub settings_first : open_job (record { width = 3; height = 3; goals = two 8 0; depth = 9; p = 1; q = 1; quota = 0 }) hall 6 figures ≡ refused 3
  -- in every call that takes goals, which leaves what it was lent
  pub decide_27 : decide (toward (two 8 0)) hall (state 6 0 0) figures fresh buffer 0 ≡ leaves (refuses 27 P.Nowhere) (state 6 0 0) figures fresh buffer
  pub decide_before_5 : (decide (toward (two 8 0)) hall (state 6 0 0) (set figures 8 1834561) fresh buffer 0).answer ≡ refuses 27 P.Nowhere
  pub decide_before_8 : (decide (toward (two 8 0)) hall (state 6 0 10) figures fresh buffer 0).answer ≡ refuses 27 P.Nowhere
  pub trial_27 : open_trial (toward (two 8 0)) hall 6 figures fresh ≡ refused 27
  pub run_27 : open_run (toward (two 8 0)) hall 6 figures fresh 1 1 ≡ refused 27
  pub fill_27 : open_table floor 1 (two 8 0) 9 ≡ refused 27
  pub fill_4_first : open_table floor 1 (two 8 4) 9 ≡ refused 4
  pub fill_3_first : open_table floor 0 (two 8 0) 9 ≡ refused 3
  pub read_27 : read_verdict floor 1 (two 8 0) [] 9 ≡ refused 27
  pub write_27 : write_verdict floor 1 (two 8 0) (set figures 8 1834561) 0 ≡ refused 27
  -- the opening figure is the least over the goals
  pub least : opening_table floor 1 (goals_of (two 0 8)) ≡ 0 ∷ 10 ∷ 20 ∷ 10 ∷ 14 ∷ 10 ∷ 20 ∷ 10 ∷ 0 ∷ []
  pub least_of_four : opening_table floor 2 (goals_of (named 4 0 2 6 8)) ≡ 0 ∷ 20 ∷ 0 ∷ 20 ∷ 28 ∷ 20 ∷ 0 ∷ 20 ∷ 0 ∷ []
  -- the distance is to the nearest: with 0 and 8 cell 6 is 20 from 8, and 60 from 0
  pub nearest : map (λ x. get_or (distances (toward (two 0 8)) hall) x 0) (0 ∷ 1 ∷ 2 ∷ 5 ∷ 6 ∷ 7 ∷ 8 ∷ []) ≡ 0 ∷ 10 ∷ 20 ∷ 10 ∷ 20 ∷ 10 ∷ 0 ∷ []
  -- 6: no walk to any, where the middle row is shut 6 reaches 8 and not 0
  pub one_reached : open_job (toward (two 0 8)) (set hall 5 1) 6 (0 ∷ 0 ∷ 0 ∷ 0 ∷ 0 ∷ 0 ∷ 0 ∷ 0 ∷ 0 ∷ []) ≡ Ok tt
  pub none_reached : open_job (toward (two 0 1)) (set hall 5 1) 6 (0 ∷ 0 ∷ 0 ∷ 0 ∷ 0 ∷ 0 ∷ 0 ∷ 0 ∷ 0 ∷ []) ≡ refused 6
  -- 7: the table that was learned for bench 0, sound for it, is refused where the nearer bench 8 opens; it names the lowest such cell
  pub nearer_bench_sound : open_job (toward (named 1 0 0 0 0)) hall 6 learnt ≡ Ok tt
  pub nearer_bench_opens : open_job (toward (two 0 8)) hall 6 learnt ≡ no 7 (P.Cell 5)
  -- arriving at any of them ends the trial
  pub arrived : map (λ x. (decide (toward (two 0 8)) hall (state x 0 0) figures fresh buffer 0).answer) (0 ∷ 8 ∷ []) ≡ A.Arrived ∷ A.Arrived ∷ []
  pub at_second : trial (toward (two 0 8)) hall 8 (replicate 9 0) fresh ≡ made 0 0 0 0 (replicate 9 0) fresh
  -- the last ring is the nearest goal's: from 6 with depth 8 that is 8's, two moves away, and 7 is no target
  pub nearest_ring : (decide (record { width = 3; height = 3; goals = two 0 8; depth = 8; p = 1; q = 1; quota = 1000 }) hall (state 6 0 0) (replicate 9 0) fresh buffer 0).answer ≡ A.Forward 8 20 2
  -- 8: any goal on the path; 9: no goal is in a ring before the empty one
  pub path-second : (decide (toward (two 0 8)) hall (state 6 0 2) figures (7 ∷ 8 ∷ replicate 7 77) buffer 0).answer ≡ refuses 8 P.Nowhere
  pub empty_after : (decide (record { width = 3; height = 1; goals = two 0 1; depth = 3; p = 1; q = 1; quota = 1000 }) (0 ∷ 0 ∷ 0 ∷ []) (state 2 0 0) (0 ∷ 0 ∷ 0 ∷ []) fresh buffer 0).answer
      ≡ A.Forward 1 10 1
  pub empty_neither : (decide (record { width = 5; height = 1; goals = two 3 4; depth = 3; p = 1; q = 1; quota = 1000 }) (0 ∷ 0 ∷ 1 ∷ 0 ∷ 0 ∷ []) (state 0 0 0) (replicate 5 0) fresh buffer 0).answer
      ≡ refuses 9 P.Nowhere
  -- the worked yard: the cart comes to prefer bench 12, which is 34 away, to bench 3, which seems 20 away and is 80
  pub yard-opening : opening_table (floor_of (in_yard both) yard) 1 (goals_of both) ≡ yard_opening
  pub yard-run : run (in_yard both) yard 11 3 yard_opening (replicate 16 77) (blank ∷ blank ∷ blank ∷ [])
      ≡ record {
        answer = made_run 2 true;
        table = yard_learnt;
        path = 11 ∷ 10 ∷ 9 ∷ replicate 13 77;
        reports = record { decisions = 3; learned = 14; kept = 34; travel = 34 } ∷ record { decisions = 3; learned = 0; kept = 34; travel = 34 } ∷ blank ∷ [];
      }
  -- where a bench closes the table stays sound; where it opens again what was learned without it is refused
  pub yard_closes : map (λ goal. open_job (in_yard (named 1 goal 0 0 0)) yard 11 yard_learnt) (3 ∷ 12 ∷ []) ≡ Ok tt ∷ Ok tt ∷ []
  pub yard_opens_again : open_job (in_yard both) yard 11 yard_alone ≡ no 7 (P.Cell 4)
  -- Edition 2, read: the job's goals, the count and each place, unused ones FF FF
  pub accepted : reads one_record ≡ Ok tt
  pub read : read_table floor 1 (two 0 8) one_record (replicate 9 5) ≡ 0 ∷ 10 ∷ 20 ∷ 10 ∷ 14 ∷ 10 ∷ 48 ∷ 10 ∷ 0 ∷ []
  pub found : find_records (9 ∷ 8 ∷ worked_file) ≡ worked_records
  pub no_records : reads (trailer 0 24) ≡ Ok tt
  -- 13: under 24 bytes, letters, editions 0 and 3, the zero byte, `back` not 24 + 6 × count, `back` past the start
  pub short : check_trailer (drop 1 (trailer 0 24)) ≡ refused 13
  pub letters : map (λ i. with (20 + i) 65) (0 ∷ 1 ∷ 2 ∷ 3 ∷ []) ≡ refused 13 ∷ refused 13 ∷ refused 13 ∷ refused 13 ∷ []
  pub editions : map (with 13) (0 ∷ 3 ∷ []) ≡ refused 13 ∷ refused 13 ∷ []
  pub zero-byte : map (with 3) (1 ∷ 255 ∷ []) ≡ refused 13 ∷ refused 13 ∷ []
  pub back : map (with 19) (22 ∷ 29 ∷ 31 ∷ []) ≡ refused 13 ∷ refused 13 ∷ refused 13 ∷ []
  pub past_start : reads (drop 1 one_record) ≡ refused 13
  pub check : map check_trailer (worked_file ∷ first_file ∷ set worked_file 47 85 ∷ []) ≡ Ok tt ∷ Ok tt ∷ refused 13 ∷ []
  -- "An edition 1 reader answers 13 to an edition 2 file"
  pub first_reader : map check_first (worked_file ∷ first_file ∷ []) ≡ refused 13 ∷ Ok tt ∷ []
  -- 14: width, height, goal count, each place in each of its bytes, and q
  pub other_job : map (λ i. with i 4) (0 ∷ 1 ∷ 2 ∷ 4 ∷ 5 ∷ 6 ∷ 7 ∷ 8 ∷ 9 ∷ 10 ∷ 11 ∷ 12 ∷ []) ≡ replicate 12 (refused 14)
  pub fewer_goals : read_verdict floor 1 (named 1 0 0 0 0) one_record 9 ≡ refused 14
  pub more_goals : read_verdict floor 1 (named 3 0 5 8 0) one_record 9 ≡ refused 14
  -- edition 1 names one goal: a job with another beside it is not its
  pub first_of_two : map (λ g. read_verdict floor 1 g first_file 9) (named 1 0 0 0 0 ∷ two 0 8 ∷ named 1 8 0 0 0 ∷ []) ≡ Ok tt ∷ refused 14 ∷ refused 14 ∷ []
  -- Edition 2, written: with two goals and with four
  pub write_two : write_table floor 1 (two 0 8) (0 ∷ 10 ∷ 20 ∷ 10 ∷ 14 ∷ 10 ∷ 48 ∷ 10 ∷ 0 ∷ []) (replicate 31 5) ≡ record { answer = Ok 30; buffer = one_record ++ 5 ∷ [] }
  pub write_four : write_table floor 1 (named 4 0 2 6 8) (0 ∷ 10 ∷ 0 ∷ 10 ∷ 14 ∷ 10 ∷ 0 ∷ 10 ∷ 0 ∷ []) (replicate 24 5)
      ≡ record { answer = Ok 24; buffer = 3 ∷ 3 ∷ 4 ∷ 0 ∷ 0 ∷ 0 ∷ 0 ∷ 2 ∷ 0 ∷ 6 ∷ 0 ∷ 8 ∷ 1 ∷ 2 ∷ 0 ∷ 0 ∷ 0 ∷ 0 ∷ 0 ∷ 24 ∷ 80 ∷ 68 ∷ 76 ∷ 84 ∷ [] }
  pub write-short : write_verdict floor 1 (two 0 8) (0 ∷ 10 ∷ 20 ∷ 10 ∷ 14 ∷ 10 ∷ 48 ∷ 10 ∷ 0 ∷ []) 29 ≡ refused 17

pub pins_benches : PinsBenches
unfolding compute
pins_benches = record {
  none_named = refl;
  five_named = refl;
  equal = refl;
  falling = refl;
  one_to_four = refl;
  places_past = refl;
  four_first = refl;
  start_first = refl;
  before_five = refl;
  settings_first = refl;
  decide_27 = refl;
  decide_before_5 = refl;
  decide_before_8 = refl;
  trial_27 = refl;
  run_27 = refl;
  fill_27 = refl;
  fill_4_first = refl;
  fill_3_first = refl;
  read_27 = refl;
  write_27 = refl;
  least = refl;
  least_of_four = refl;
  nearest = refl;
  one_reached = refl;
  none_reached = refl;
  nearer_bench_sound = refl;
  nearer_bench_opens = refl;
  arrived = refl;
  at_second = refl;
  nearest_ring = refl;
  path-second = refl;
  empty_after = refl;
  empty_neither = refl;
  yard-opening = refl;
  yard-run = refl;
  yard_closes = refl;
  yard_opens_again = refl;
  accepted = refl;
  read = refl;
  found = refl;
  no_records = refl;
  short = refl;
  letters = refl;
  editions = refl;
  zero-byte = refl;
  back = refl;
  past_start = refl;
  check = refl;
  first_reader = refl;
  other_job = refl;
  fewer_goals = refl;
  more_goals = refl;
  first_of_two = refl;
  write_two = refl;
  write_four = refl;
  write-short = refl;
}
