-- The table file: its trailer, records, reader and writer, each fault alone, each limit on both sides, and the order of the numbers.
use Prim.Native.Nat.{ℕ, ◌+◌}
use mathlib.Core.Path.{◌≡◌, refl}
use mathlib.Core.List.{List, [], ◌∷◌, ◌++◌, map}
use lib.ListN.{length, set, replicate, take, drop}
use Rattle.answers.specs.declared.Place.{Place}
use Rattle.answers.specs.declared.Place.TheVariants as P
use Rattle.answers.specs.Outcomes.{Verdict}
use Rattle.std.specs.Prelude.{Ok, Err}
use Rattle.model.specs.Floor.{Floor, one_goal, opening_table}
use Rattle.model.specs.TableFile.{check_trailer, find_records, read_verdict, read_table, write_table}
use Rattle.model.specs.Compute.{compute}
use Rattle.worked.proofs.Hall.{hall, figures, no, learnt, worked_file, first_file}

abbrev floor : Floor
floor = record { width = 3; height = 3; bytes = hall }

-- the trailers of a file with so many records on the worked floor, and a record of a cell and a figure, all of numbers below 256: that of edition 1,
abbrev trailer : (count back : ℕ) → List ℕ
trailer count back = 3 ∷ 3 ∷ 0 ∷ 0 ∷ 1 ∷ 1 ∷ 0 ∷ count ∷ 0 ∷ 0 ∷ 0 ∷ back ∷ 80 ∷ 68 ∷ 76 ∷ 84 ∷ []

-- and that of edition 2, which is written
abbrev written : (count back : ℕ) → List ℕ
written count back =
    3 ∷ 3 ∷ 1 ∷ 0 ∷ 0 ∷ 0 ∷ 255 ∷ 255 ∷ 255 ∷ 255 ∷ 255 ∷ 255 ∷ 1 ∷ 2 ∷ 0 ∷ count ∷ 0 ∷ 0 ∷ 0 ∷ back ∷ 80 ∷ 68 ∷ 76 ∷ 84 ∷ []

abbrev entry : (cell figure : ℕ) → List ℕ
entry cell figure = 0 ∷ cell ∷ 0 ∷ 0 ∷ 0 ∷ figure ∷ []

-- reading a file on the worked floor, and one whose trailer has another byte at a place
abbrev reads : List ℕ → Verdict
reads file = read_verdict floor 1 (one_goal 0) file 9

abbrev with : (place byte : ℕ) → Verdict
with place byte = reads (set (entry 6 48 ++ trailer 1 22) (6 + place) byte)

-- what reading a file answers, and the table after; a refused reading leaves it as lent
abbrev reading : Floor → (q goal : ℕ) → (file table : List ℕ) → Verdict × List ℕ
reading f q goal file table = (read_verdict f q (one_goal goal) file (length table), read_table f q (one_goal goal) file table)

abbrev Read : List ℕ → List ℕ → Type 0
Read file table = reading floor 1 0 file (replicate 9 5) ≡ (Ok tt, table)

abbrev Unread : Floor → (q goal : ℕ) → (file table : List ℕ) → (number : ℕ) → Place → Type 0
Unread f q goal file table number place = reading f q goal file table ≡ (no number place, table)

-- a refused writing leaves the buffer as lent
abbrev Unwritten : Floor → (q goal : ℕ) → (table buffer : List ℕ) → (number : ℕ) → Place → Type 0
Unwritten f q goal table buffer number place =
    write_table f q (one_goal goal) table buffer ≡ record { answer = Err (record { number = number; place = place }); buffer = buffer }

-- one row of two free cells, and its file with q 3 where cell 1 is at 31, in edition 1 and as it is written
abbrev oblong : Floor
oblong = record { width = 2; height = 1; bytes = 0 ∷ 0 ∷ [] }

abbrev oblong_file : List ℕ
oblong_file = 0 ∷ 1 ∷ 0 ∷ 0 ∷ 0 ∷ 31 ∷ 2 ∷ 1 ∷ 0 ∷ 0 ∷ 3 ∷ 1 ∷ 0 ∷ 1 ∷ 0 ∷ 0 ∷ 0 ∷ 22 ∷ 80 ∷ 68 ∷ 76 ∷ 84 ∷ []

abbrev oblong_written : List ℕ
oblong_written =
    0 ∷ 1 ∷ 0 ∷ 0 ∷ 0 ∷ 31
    ∷ 2 ∷ 1 ∷ 1 ∷ 0 ∷ 0 ∷ 0 ∷ 255 ∷ 255 ∷ 255 ∷ 255 ∷ 255 ∷ 255 ∷ 3 ∷ 2 ∷ 0 ∷ 1 ∷ 0 ∷ 0 ∷ 0 ∷ 30 ∷ 80 ∷ 68 ∷ 76 ∷ 84 ∷ []

-- 64 × 5 free cells, goal 257: numbers that take both bytes
abbrev long : Floor
long = record { width = 64; height = 5; bytes = replicate 320 0 }

abbrev long_table : List ℕ
long_table = opening_table long 2 (257 ∷ [])

abbrev pub long_file : List ℕ
long_file = 1 ∷ 44 ∷ 0 ∷ 1 ∷ 17 ∷ 112 ∷ 64 ∷ 5 ∷ 1 ∷ 1 ∷ 2 ∷ 1 ∷ 0 ∷ 1 ∷ 0 ∷ 0 ∷ 0 ∷ 22 ∷ 80 ∷ 68 ∷ 76 ∷ 84 ∷ []

abbrev pub long_written : List ℕ
long_written =
    1 ∷ 44 ∷ 0 ∷ 1 ∷ 17 ∷ 112
    ∷ 64 ∷ 5 ∷ 1 ∷ 0 ∷ 1 ∷ 1 ∷ 255 ∷ 255 ∷ 255 ∷ 255 ∷ 255 ∷ 255 ∷ 2 ∷ 2 ∷ 0 ∷ 1 ∷ 0 ∷ 0 ∷ 0 ∷ 30 ∷ 80 ∷ 68 ∷ 76 ∷ 84 ∷ []

pub record PinsTable : Type 0 where
  -- The reader gives every other cell its opening figure
  pub read : Read first_file learnt
  pub read-written : Read worked_file learnt
  pub read_none : Read (trailer 0 16) figures
  -- The finder of the records, trailer left off; a faulty trailer gives the empty part
  pub found : find_records (9 ∷ 8 ∷ first_file) ≡ entry 5 30 ++ entry 6 60 ++ entry 7 50 ++ entry 8 40
  pub found_none : find_records (entry 6 48 ++ trailer 0 16) ≡ []
  pub found_faulty : find_records (set first_file 39 85) ≡ []
  -- the trailer's check tells that apart from a count of 0
  pub check_none : check_trailer (trailer 0 16) ≡ Ok tt
  pub check_faulty : check_trailer (set first_file 39 85) ≡ no 13 P.Nowhere
  -- 13: under 16 bytes
  pub short : map reads ([] ∷ drop 1 (trailer 0 16) ∷ []) ≡ no 13 P.Nowhere ∷ no 13 P.Nowhere ∷ []
  -- letters
  pub letters : map (λ i. with (12 + i) 65) (0 ∷ 1 ∷ 2 ∷ 3 ∷ []) ≡ no 13 P.Nowhere ∷ no 13 P.Nowhere ∷ no 13 P.Nowhere ∷ no 13 P.Nowhere ∷ []
  -- edition
  pub edition : map (with 5) (0 ∷ 2 ∷ []) ≡ no 13 P.Nowhere ∷ no 13 P.Nowhere ∷ []
  -- `back` not 16 + 6 × count, in each of its bytes
  pub back : map (λ i. with (8 + i) 23) (0 ∷ 1 ∷ 2 ∷ 3 ∷ []) ≡ no 13 P.Nowhere ∷ no 13 P.Nowhere ∷ no 13 P.Nowhere ∷ no 13 P.Nowhere ∷ []
  pub count : map (with 7) (0 ∷ 2 ∷ []) ≡ no 13 P.Nowhere ∷ no 13 P.Nowhere ∷ []
  pub count_both : check_trailer (replicate 1536 0 ++ (3 ∷ 3 ∷ 0 ∷ 0 ∷ 1 ∷ 1 ∷ 1 ∷ 0 ∷ 0 ∷ 0 ∷ 6 ∷ 16 ∷ 80 ∷ 68 ∷ 76 ∷ 84 ∷ [])) ≡ Ok tt
  -- or `back` past the file's start
  pub past_start : reads (drop 1 first_file) ≡ no 13 P.Nowhere
  pub check_past : check_trailer (drop 1 first_file) ≡ no 13 P.Nowhere
  -- 14: width, height, goal or q not this job's; after 13 and before the records
  pub thirteen_first : Unread floor 2 0 (set first_file 39 85) (replicate 9 5) 13 P.Nowhere
  pub width_other : map (with 0) (2 ∷ 4 ∷ []) ≡ no 14 P.Nowhere ∷ no 14 P.Nowhere ∷ []
  pub height_other : map (with 1) (2 ∷ 4 ∷ []) ≡ no 14 P.Nowhere ∷ no 14 P.Nowhere ∷ []
  pub goal_other : map (with 3) (1 ∷ []) ++ map (with 2) (1 ∷ []) ≡ no 14 P.Nowhere ∷ no 14 P.Nowhere ∷ []
  pub goal-lower : Unread floor 1 5 (trailer 0 16) (replicate 9 5) 14 P.Nowhere
  pub q_other : with 4 2 ≡ no 14 P.Nowhere
  pub fourteen_first : Unread floor 2 0 (entry 3 48 ++ trailer 1 22) (replicate 9 5) 14 P.Nowhere
  -- 18 off the floor: it names the first such record
  pub off : Unread floor 1 0 (entry 9 48 ++ trailer 1 22) (replicate 9 5) 18 (P.Record 0)
  pub off_high : reads (1 ∷ 6 ∷ 0 ∷ 0 ∷ 0 ∷ 48 ∷ trailer 1 22) ≡ no 18 (P.Record 0)
  pub last_cell : reads (entry 8 48 ++ trailer 1 22) ≡ Ok tt
  -- 19 blocked
  pub blocked : Unread floor 1 0 (entry 2 48 ++ (entry 3 48 ++ trailer 2 28)) (replicate 9 5) 19 (P.Record 1)
  -- 20 not above the cell before: the record just before, not one further ahead
  pub same_cell : Unread floor 1 0 (entry 6 48 ++ (entry 6 48 ++ trailer 2 28)) (replicate 9 5) 20 (P.Record 1)
  pub lower-cell : reads (entry 5 48 ++ (entry 7 48 ++ (entry 6 48 ++ trailer 3 34))) ≡ no 20 (P.Record 2)
  -- 21 figure not above the opening figure
  pub not_above : Unread floor 1 0 (entry 6 48 ++ (entry 7 24 ++ (entry 3 48 ++ trailer 3 34))) (replicate 9 5) 21 (P.Record 1)
  pub just_above : reads (entry 6 48 ++ (entry 7 25 ++ trailer 2 28)) ≡ Ok tt
  -- the opening figure with the job's own q: 30 at cell 1
  pub not_above_scaled : Unread oblong 3 0 (set oblong_file 5 30) (5 ∷ 5 ∷ []) 21 (P.Record 0)
  -- 22 figure above the ceiling
  pub ceiling_passed : Unread floor 1 0 (0 ∷ 8 ∷ 0 ∷ 27 ∷ 254 ∷ 65 ∷ trailer 1 22) (replicate 9 5) 22 (P.Record 0)
  pub ceiling-far : reads (0 ∷ 8 ∷ 1 ∷ 0 ∷ 0 ∷ 48 ∷ trailer 1 22) ≡ no 22 (P.Record 0)
  -- two faults in one record: the first in this order. Off the floor (and so not free), at an opening figure's height or above the ceiling
  pub off_and_not_above : reads (entry 9 0 ++ trailer 1 22) ≡ no 18 (P.Record 0)
  pub off_and_ceiling : reads (0 ∷ 9 ∷ 255 ∷ 0 ∷ 0 ∷ 0 ∷ trailer 1 22) ≡ no 18 (P.Record 0)
  -- off the floor and not above the one before, which is then off it too: that one is named
  pub off_and_same_cell : reads (entry 9 48 ++ (entry 9 48 ++ trailer 2 28)) ≡ no 18 (P.Record 0)
  -- blocked, and not above the one before, or at the opening figure, or above the ceiling
  pub blocked_and_lower_cell : reads (entry 5 48 ++ (entry 3 48 ++ trailer 2 28)) ≡ no 19 (P.Record 1)
  pub blocked_and_not_above : reads (entry 3 10 ++ trailer 1 22) ≡ no 19 (P.Record 0)
  pub blocked_and_ceiling : reads (0 ∷ 3 ∷ 255 ∷ 0 ∷ 0 ∷ 0 ∷ trailer 1 22) ≡ no 19 (P.Record 0)
  -- not above the one before, and at the opening figure, or above the ceiling
  pub lower_cell_and_not_above : reads (entry 7 48 ++ (entry 6 20 ++ trailer 2 28)) ≡ no 20 (P.Record 1)
  pub lower_cell_and_ceiling : reads (entry 7 48 ++ (0 ∷ 6 ∷ 255 ∷ 0 ∷ 0 ∷ 0 ∷ trailer 2 28)) ≡ no 20 (P.Record 1)
  -- the first faulty record is named, whatever lower number a later one has: 22 ahead of 18, 21 ahead of 19, 20 ahead of 18
  pub first_named : map reads
      ((0 ∷ 5 ∷ 255 ∷ 0 ∷ 0 ∷ 0 ∷ entry 9 48 ++ trailer 2 28) ∷ (entry 5 14 ++ (entry 3 48 ++ trailer 2 28)) ∷ (entry 6 48 ++ (entry 5 48 ++ (entry 9 48 ++ trailer 3 34))) ∷ [])
      ≡ no 22 (P.Record 0) ∷ no 21 (P.Record 0) ∷ no 20 (P.Record 1) ∷ []
  pub ceiling-met : Read (0 ∷ 8 ∷ 0 ∷ 27 ∷ 254 ∷ 64 ∷ trailer 1 22) (set figures 8 1834560)
  pub first_cell : Read (entry 0 1 ++ (entry 1 11 ++ trailer 2 28)) (set (set figures 0 1) 1 11)
  -- the table calls judge sizes, q, goal and their own numbers
  pub read_1 : Unread floor 0 0 first_file (replicate 8 5) 1 P.Nowhere
  pub read_3 : Unread floor 0 4 first_file (replicate 9 5) 3 P.Nowhere
  pub read_4 : Unread floor 1 4 [] (replicate 9 5) 4 P.Nowhere
  -- the writer also 5, before 16; 16 before 17
  pub write_1 : Unwritten floor 0 0 (take 8 figures) [] 1 P.Nowhere
  pub write_3 : Unwritten floor 0 4 figures [] 3 P.Nowhere
  pub write_4 : Unwritten floor 1 4 (set figures 8 1834561) [] 4 P.Nowhere
  pub write_5 : Unwritten floor 1 0 (set (set figures 8 1834561) 1 9) [] 5 (P.Cell 8)
  pub write_5_blocked : Unwritten floor 1 0 (set (set figures 8 1834561) 4 1834561) [] 5 (P.Cell 4)
  -- 16: a free cell below its opening figure, or a blocked one unlike it; names the lowest
  pub below : Unwritten floor 1 0 (set (set figures 7 23) 8 27) [] 16 (P.Cell 7)
  pub below_last : Unwritten floor 1 0 (set figures 8 27) [] 16 (P.Cell 8)
  pub blocked_above : Unwritten floor 1 0 (set (set figures 3 11) 8 27) [] 16 (P.Cell 3)
  pub blocked_below : Unwritten floor 1 0 (set figures 4 13) [] 16 (P.Cell 4)
  -- 17: no room
  pub no_room : Unwritten floor 1 0 learnt (replicate 47 5) 17 P.Nowhere
  pub room : write_table floor 1 (one_goal 0) learnt (replicate 48 5) ≡ record { answer = Ok 48; buffer = worked_file }
  -- Figures that differ from the opening figure: none
  pub write_none : write_table floor 1 (one_goal 0) figures (replicate 25 5) ≡ record { answer = Ok 24; buffer = written 0 24 ++ 5 ∷ [] }
  -- up to the ceiling, the first cell and the last; numbers are big-endian
  pub write-ends : write_table floor 1 (one_goal 0) (set (set (set figures 0 1834560) 7 131071) 8 131072) (replicate 42 5)
      ≡ record { answer = Ok 42; buffer = 0 ∷ 0 ∷ 0 ∷ 27 ∷ 254 ∷ 64 ∷ 0 ∷ 7 ∷ 0 ∷ 1 ∷ 255 ∷ 255 ∷ 0 ∷ 8 ∷ 0 ∷ 2 ∷ 0 ∷ 0 ∷ written 3 42 }
  -- width before height
  pub write-oblong : write_table oblong 3 (one_goal 0) (0 ∷ 31 ∷ []) (replicate 30 5) ≡ record { answer = Ok 30; buffer = oblong_written }
  pub read-oblong : map (λ file. reading oblong 3 0 file (5 ∷ 5 ∷ [])) (oblong_file ∷ oblong_written ∷ []) ≡ (Ok tt, 0 ∷ 31 ∷ []) ∷ (Ok tt, 0 ∷ 31 ∷ []) ∷ []
  -- cell and goal take two bytes, figure and back four, and are read as they are written
  pub write-long : write_table long 2 (one_goal 257) (set long_table 300 70000) (replicate 30 5) ≡ record { answer = Ok 30; buffer = long_written }
  pub read-long : reading long 2 257 long_file (replicate 320 5) ≡ (Ok tt, set long_table 300 70000)
  pub read-long_written : reading long 2 257 long_written (replicate 320 5) ≡ (Ok tt, set long_table 300 70000)
  -- and count two: 320 records
  pub count_long : drop 1920 (write_table long 2 (one_goal 257) (replicate 320 900000) (replicate 1944 5)).buffer
      ≡ 64 ∷ 5 ∷ 1 ∷ 0 ∷ 1 ∷ 1 ∷ 255 ∷ 255 ∷ 255 ∷ 255 ∷ 255 ∷ 255 ∷ 2 ∷ 2 ∷ 1 ∷ 64 ∷ 0 ∷ 0 ∷ 7 ∷ 152 ∷ 80 ∷ 68 ∷ 76 ∷ 84 ∷ []

pub pins_table : PinsTable
unfolding compute
pins_table = record {
  read = refl;
  read-written = refl;
  read_none = refl;
  found = refl;
  found_none = refl;
  found_faulty = refl;
  check_none = refl;
  check_faulty = refl;
  short = refl;
  letters = refl;
  edition = refl;
  back = refl;
  count = refl;
  count_both = refl;
  past_start = refl;
  check_past = refl;
  thirteen_first = refl;
  width_other = refl;
  height_other = refl;
  goal_other = refl;
  goal-lower = refl;
  q_other = refl;
  fourteen_first = refl;
  off = refl;
  off_high = refl;
  last_cell = refl;
  blocked = refl;
  same_cell = refl;
  lower-cell = refl;
  not_above = refl;
  just_above = refl;
  not_above_scaled = refl;
  ceiling_passed = refl;
  ceiling-far = refl;
  off_and_not_above = refl;
  off_and_ceiling = refl;
  off_and_same_cell = refl;
  blocked_and_lower_cell = refl;
  blocked_and_not_above = refl;
  blocked_and_ceiling = refl;
  lower_cell_and_not_above = refl;
  lower_cell_and_ceiling = refl;
  first_named = refl;
  ceiling-met = refl;
  first_cell = refl;
  read_1 = refl;
  read_3 = refl;
  read_4 = refl;
  write_1 = refl;
  write_3 = refl;
  write_4 = refl;
  write_5 = refl;
  write_5_blocked = refl;
  below = refl;
  below_last = refl;
  blocked_above = refl;
  blocked_below = refl;
  no_room = refl;
  room = refl;
  write_none = refl;
  write-ends = refl;
  write-oblong = refl;
  read-oblong = refl;
  write-long = refl;
  read-long = refl;
  read-long_written = refl;
  count_long = refl;
}
