-- The table file: records of the figures that differ from the opening figure, then a trailer that points back. Numbers are big-endian.
-- Its edition 1 is read, edition 2 is read and written; they differ in the trailer alone.
use Rattle.std.specs.Prelude.{ℕ, zero, suc, ◌+◌, ◌-◌, ◌*◌, ◌/◌, ◌%◌, Bool, true, false, not, ◌&&◌, ◌||◌, List, [], ◌∷◌, ◌++◌, leb, ltb, eqb, length, get_or, set, take, drop}
use Rattle.answers.specs.declared.Goals.{Goals}
use Rattle.answers.specs.declared.Place.TheVariants as P
use Rattle.answers.specs.Outcomes.{Verdict}
use Rattle.std.specs.Prelude.{Ok, Err}
use Rattle.model.specs.Basics.{choose, every, at_end, then, refuse_at, unless, naming}
use Rattle.model.specs.Floor.{Floor, size, free, goals_of, opening, opening_table}
use Rattle.model.specs.Checks.{ceiling, figures}
use Rattle.model.specs.Opening.{open_table}
use Rattle.model.specs.Writing.{file_room, WriteOutcome, write_of}

-- a number of 2 bytes and one of 4: read at a place, and written
abbrev pub half_at : List ℕ → ℕ → ℕ
half_at bytes i = get_or bytes i 0 * 256 + get_or bytes (i + 1) 0

abbrev pub word_at : List ℕ → ℕ → ℕ
word_at bytes i = half_at bytes i * 65536 + half_at bytes (i + 2)

abbrev pub half : ℕ → List ℕ
half n = n / 256 % 256 ∷ n % 256 ∷ []

abbrev pub word : ℕ → List ℕ
word n = half (n / 65536) ++ half n

-- The trailer: the last 16 bytes in edition 1, which names one goal, and "24 bytes" in edition 2. Its last 12 bytes are the same in both:
-- q (1), edition (1), count (2), back (4), the letters PDLT.
abbrev pub first_long : ℕ
first_long = 16

abbrev pub second_long : ℕ
second_long = 24

abbrev pub trailer : (long : ℕ) → List ℕ → List ℕ
trailer long file = at_end long file

abbrev pub ending : List ℕ → List ℕ
ending file = trailer 12 file

abbrev pub scale_in : List ℕ → ℕ
scale_in file = get_or (ending file) 0 0

abbrev pub edition_in : List ℕ → ℕ
edition_in file = get_or (ending file) 1 0

abbrev pub count_in : List ℕ → ℕ
count_in file = half_at (ending file) 2

abbrev pub back_in : List ℕ → ℕ
back_in file = word_at (ending file) 4

abbrev pub is_letters : List ℕ → Bool
is_letters t = eqb (get_or t 8 0) 80 && eqb (get_or t 9 0) 68 && eqb (get_or t 10 0) 76 && eqb (get_or t 11 0) 84

-- an edition whose trailer is so long: not under so many bytes, letters, edition, `back` being so many + 6 × count, and not past the file's start
unfoldable pub holds_as : (edition long : ℕ) → List ℕ → Bool
holds_as edition long file =
    leb long (length file) && is_letters (ending file) && eqb (edition_in file) edition
    && eqb (back_in file) (long + 6 * count_in file) && leb (back_in file) (length file)

-- 13 of an edition 1 reader, which knows no other
abbrev pub first_holds : List ℕ → Bool
first_holds file = holds_as 1 first_long file

unfoldable pub check_first : List ℕ → Verdict
check_first file = unless (first_holds file) 13

-- "13 also where the zero byte isn't 0"
unfoldable pub second_holds : List ℕ → Bool
second_holds file = holds_as 2 second_long file && eqb (get_or (trailer second_long file) 3 0) 0

-- 13: "The reader takes both editions"
unfoldable pub trailer_holds : List ℕ → Bool
trailer_holds file = first_holds file || second_holds file

unfoldable pub check_trailer : List ℕ → Verdict
check_trailer file = unless (trailer_holds file) 13

-- 28, "bytes ahead": "Edition 2 files must begin with their first record. Edition 1 files with bytes ahead are no longer read." So `back` is not less than the file's length
unfoldable pub check_ahead : List ℕ → Verdict
check_ahead file = unless (leb (length file) (back_in file)) 28

-- The records, trailer left off: `back` is counted from the file's end to the first record. Whatever stands ahead of that is not looked at.
-- A trailer faulty by 13 gives the empty part.
unfoldable pub find_records : List ℕ → List ℕ
find_records file = choose (trailer_holds file) (take (6 * count_in file) (drop (length file - back_in file) file)) []

-- a goal place of edition 2: "rising, unused ones FF FF"
abbrev pub unused : ℕ
unused = 65535

abbrev pub goal_place : List ℕ → ℕ → ℕ
goal_place gs i = get_or gs i unused

-- The trailer's job, ahead of the last 12 bytes. Edition 1: width (1), height (1), goal (2). It is this job's where that is its one goal.
unfoldable pub first_names : Floor → List ℕ → List ℕ → Bool
first_names f gs t = eqb (get_or t 0 0) f.width && eqb (get_or t 1 0) f.height && eqb (half_at t 2) (get_or gs 0 0) && eqb (length gs) 1

-- Edition 2: width (1), height (1), "goal count (1), a zero byte and four goal places (2 each ..) in place of the one goal".
unfoldable pub places_named : List ℕ → List ℕ → Bool
places_named gs t = every (λ i. eqb (half_at t (4 + 2 * i)) (goal_place gs i)) (0 ∷ 1 ∷ 2 ∷ 3 ∷ [])

unfoldable pub second_names : Floor → List ℕ → List ℕ → Bool
second_names f gs t = eqb (get_or t 0 0) f.width && eqb (get_or t 1 0) f.height && eqb (get_or t 2 0) (length gs) && places_named gs t

abbrev pub named : Floor → List ℕ → List ℕ → Bool
named f gs file = choose (eqb (edition_in file) 1) (first_names f gs (trailer first_long file)) (second_names f gs (trailer second_long file))

-- 14: width, height or q not this job's; "14 also where the goal count or a goal place, an unused one included, isn't what the writer would give for this job"
unfoldable pub same_job : Floor → ℕ → List ℕ → List ℕ → Verdict
same_job f q gs file = unless (named f gs file && eqb (scale_in file) q) 14

-- A record, 6 bytes: cell (2), figure (4).
abbrev pub cell_in : List ℕ → ℕ
cell_in part = half_at part 0

abbrev pub figure_in : List ℕ → ℕ
figure_in part = word_at part 2

-- 18: its cell is off the floor. 19: blocked. 20: not above the one before. 21: its figure is not above the opening figure. 22: above the ceiling.
-- Where a record has several faults it is the first in this order. `low` is one more than the cell before. 0 where it has none
unfoldable pub record_fault : Floor → ℕ → List ℕ → (low : ℕ) → (part : List ℕ) → ℕ
record_fault f q gs low part =
    choose (leb (size f) (cell_in part)) 18
    (choose (not (free f (cell_in part))) 19
    (choose (ltb (cell_in part) low) 20
    (choose (leb (figure_in part) (opening f q gs (cell_in part))) 21
    (choose (ltb ceiling (figure_in part)) 22
    0))))

-- n records, the first of them numbered i: names the first faulty one
unfoldable pub judge_records : Floor → ℕ → List ℕ → (n i low : ℕ) → (part : List ℕ) → Verdict
judge_records f q gs zero i low part = Ok tt
judge_records f q gs (suc n) i low part =
    let fault = record_fault f q gs low part in
    elim (eqb fault 0) [
      | true ↦ judge_records f q gs n (suc i) (suc (cell_in part)) (drop 6 part)
      | false ↦ refuse_at fault (P.Record i)
    ]

-- the figures of n records, put into a table
unfoldable pub applied : (n : ℕ) → (part table : List ℕ) → List ℕ
applied zero part table = table
applied (suc n) part table = applied n (drop 6 part) (set table (cell_in part) (figure_in part))

-- the table that a trailer points to: 14, then 18 to 22
abbrev pub judge_table : Floor → ℕ → List ℕ → (file : List ℕ) → Verdict
judge_table f q gs file = then (same_job f q gs file) (judge_records f q gs (count_in file) 0 0 (find_records file))

-- the table calls judge 1, 3 (q alone), 4 (goals alone) and 27 first, as filling a table does. 28 comes "directly after 13"
unfoldable pub read_verdict : Floor → ℕ → Goals → (file : List ℕ) → (figures : ℕ) → Verdict
read_verdict f q g file figures =
    then (open_table f q g figures)
    (then (check_trailer file)
    (then (check_ahead file)
    (judge_table f q (goals_of g) file)))

-- The reader: the table after. Every cell without a record has its opening figure; a refusal leaves the table as lent.
abbrev pub read_of : Verdict → Floor → ℕ → Goals → (file table : List ℕ) → List ℕ
read_of (Ok _) f q g file table = applied (count_in file) (find_records file) (opening_table f q (goals_of g))
read_of (Err r) f q g file table = table

unfoldable pub read_table : Floor → ℕ → Goals → (file table : List ℕ) → List ℕ
read_table f q g file table = read_of (read_verdict f q g file (length table)) f q g file table

-- The writer. The cells whose figure differs from the opening figure, of the n cells from x on, rising; their records; and the whole file.
unfoldable pub changed : Floor → ℕ → List ℕ → (table : List ℕ) → (n x : ℕ) → List ℕ
changed f q gs table zero x = []
changed f q gs table (suc n) x =
    choose (eqb (get_or table x 0) (opening f q gs x)) (changed f q gs table n (suc x)) (x ∷ changed f q gs table n (suc x))

unfoldable pub records_of : (table cells : List ℕ) → List ℕ
records_of table [] = []
records_of table (x ∷ xs) = half x ++ (word (get_or table x 0) ++ records_of table xs)

-- "the writer writes 2"
unfoldable pub trailer_of : Floor → ℕ → List ℕ → (count : ℕ) → List ℕ
trailer_of f q gs count =
    f.width ∷ f.height ∷ length gs ∷ 0
    ∷ (half (goal_place gs 0) ++ (half (goal_place gs 1) ++ (half (goal_place gs 2) ++ (half (goal_place gs 3)
    ++ (q ∷ 2 ∷ (half count ++ (word (second_long + 6 * count) ++ (80 ∷ 68 ∷ 76 ∷ 84 ∷ []))))))))

unfoldable pub file_of : Floor → ℕ → List ℕ → (table : List ℕ) → List ℕ
file_of f q gs table = let cells = changed f q gs table (size f) 0 in records_of table cells ++ trailer_of f q gs (length cells)

-- 16: a free cell below its opening figure, or a blocked one unlike it; names the lowest
unfoldable pub unlike : Floor → ℕ → List ℕ → (table : List ℕ) → ℕ → Bool
unlike f q gs table x =
    let figure = get_or table x 0 in
    choose (free f x) (ltb figure (opening f q gs x)) (not (eqb figure (opening f q gs x)))

unfoldable pub write_verdict : Floor → ℕ → Goals → (table : List ℕ) → (room : ℕ) → Verdict
write_verdict f q g table room =
    then (open_table f q g (length table))
    (then (figures f table)
    (then (naming (size f) (unlike f q (goals_of g) table) 16)
    (file_room (length (file_of f q (goals_of g) table)) room)))

-- It fills the list from the first byte, answers the length and touches nothing beyond.
unfoldable pub write_table : Floor → ℕ → Goals → (table buffer : List ℕ) → WriteOutcome
write_table f q g table buffer = write_of (write_verdict f q g table (length buffer)) (file_of f q (goals_of g) table) buffer
