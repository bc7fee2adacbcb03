-- Floor text, by the octile grid benchmark format: `type octile`, `height n`, `width n`, `map`, then the rows, each line ended by LF.
use Rattle.std.specs.Prelude.{ℕ, zero, suc, ◌+◌, ◌-◌, ◌*◌, Bool, true, false, ◌&&◌, ◌||◌, List, [], ◌∷◌, ◌++◌, map, leb, eqb, length, get_or, take, drop}
use Rattle.answers.specs.declared.Place.TheVariants as P
use Rattle.answers.specs.Outcomes.{Verdict, FloorRead, read_sizes}
use Rattle.std.specs.Prelude.{Ok, Err}
use Rattle.model.specs.Basics.{choose, between, every, then, refuse_at, unless}
use Rattle.model.specs.Floor.{plain_byte, blocked_byte, slow_byte}

abbrev pub LF : ℕ
LF = 10

-- `type octile` LF `height `; `width `; `map` LF
abbrev pub type_and_height : List ℕ
type_and_height = 116 ∷ 121 ∷ 112 ∷ 101 ∷ 32 ∷ 111 ∷ 99 ∷ 116 ∷ 105 ∷ 108 ∷ 101 ∷ 10 ∷ 104 ∷ 101 ∷ 105 ∷ 103 ∷ 104 ∷ 116 ∷ 32 ∷ []

abbrev pub and_width : List ℕ
and_width = 119 ∷ 105 ∷ 100 ∷ 116 ∷ 104 ∷ 32 ∷ []

abbrev pub and_map : List ℕ
and_map = 109 ∷ 97 ∷ 112 ∷ 10 ∷ []

-- whether a text begins with these bytes
unfoldable pub begins : List ℕ → List ℕ → Bool
begins [] text = true
begins (x ∷ xs) [] = false
begins (x ∷ xs) (y ∷ ys) = eqb x y && begins xs ys

abbrev pub is_digit : ℕ → Bool
is_digit b = between 48 b 57

-- A size of one digit or two and its LF, at the front of a text: 1 to 64 with no zero in front; 0 where there is none. How many bytes it takes
unfoldable pub size_in : List ℕ → ℕ
size_in text =
    let a = get_or text 0 0 in
    let b = get_or text 1 0 in
    let n = 10 * (a - 48) + (b - 48) in
    choose (between 49 a 57 && eqb b LF) (a - 48) (choose (between 49 a 57 && is_digit b && eqb (get_or text 2 0) LF && leb n 64) n 0)

abbrev pub size_bytes : ℕ → ℕ
size_bytes n = choose (leb n 9) 2 3

-- The header: its height and width, and the text after it.
abbrev pub height_in : List ℕ → ℕ
height_in text = size_in (drop 19 text)

abbrev pub after_height : List ℕ → List ℕ
after_height text = drop (19 + size_bytes (height_in text)) text

abbrev pub width_in : List ℕ → ℕ
width_in text = size_in (drop 6 (after_height text))

abbrev pub after_width : List ℕ → List ℕ
after_width text = drop (6 + size_bytes (width_in text)) (after_height text)

abbrev pub rows_in : List ℕ → List ℕ
rows_in text = drop 4 (after_width text)

-- 11: header, or its sizes
unfoldable pub header : List ℕ → Verdict
header text =
    unless (begins type_and_height text && leb 1 (height_in text) && begins and_width (after_height text) && leb 1 (width_in text) && begins and_map (after_width text)) 11

-- `.` and `G` are free, byte 0; "charging lanes are marked `S`", byte 2; `@`, `O`, `T` blocked, byte 1; any other letter is refused
abbrev pub free_letter : ℕ → Bool
free_letter b = eqb b 46 || eqb b 71

abbrev pub slow_letter : ℕ → Bool
slow_letter b = eqb b 83

abbrev pub blocked_letter : ℕ → Bool
blocked_letter b = eqb b 64 || eqb b 79 || eqb b 84

abbrev pub is_letter : ℕ → Bool
is_letter b = free_letter b || slow_letter b || blocked_letter b

abbrev pub byte_of : ℕ → ℕ
byte_of b = choose (free_letter b) plain_byte (choose (slow_letter b) slow_byte blocked_byte)

-- a row at the front of a text: its letters and its LF
unfoldable pub row_holds : ℕ → List ℕ → Bool
row_holds width text = leb (suc width) (length text) && every is_letter (take width text) && eqb (get_or text width 0) LF

-- 12: n rows and nothing after them, the first on the given line; names the first faulty line
unfoldable pub rows : (width n line : ℕ) → (text : List ℕ) → Verdict
rows width zero line text = choose (eqb (length text) 0) (Ok tt) (refuse_at 12 (P.Line line))
rows width (suc n) line text =
    elim (row_holds width text) [ true ↦ rows width n (suc line) (drop (suc width) text) | false ↦ refuse_at 12 (P.Line line) ]

-- the bytes of n rows
unfoldable pub cells_of : (width n : ℕ) → (text : List ℕ) → List ℕ
cells_of width zero text = []
cells_of width (suc n) text = map byte_of (take width text) ++ cells_of width n (drop (suc width) text)

-- 11, then 2, floor buffer too short, then 12; the first row stands on line 5, counted from 1 at the `type` line
unfoldable pub floor_verdict : (text : List ℕ) → (room : ℕ) → Verdict
floor_verdict text room =
    then (header text)
    (then (unless (leb (width_in text * height_in text) room) 2)
    (rows (width_in text) (height_in text) 5 (rows_in text)))

-- All that reading a floor answers and leaves; buffer bytes beyond width × height are untouched.
pub record FloorOutcome : Type 0 where
  pub answer : FloorRead
  pub buffer : List ℕ

abbrev pub floor_from : Verdict → (text buffer : List ℕ) → FloorOutcome
floor_from (Ok _) text buffer = record {
  answer = read_sizes (width_in text) (height_in text);
  buffer = cells_of (width_in text) (height_in text) (rows_in text) ++ drop (width_in text * height_in text) buffer;
}
floor_from (Err r) text buffer = record { answer = Err r; buffer = buffer }

unfoldable pub read_floor : (text buffer : List ℕ) → FloorOutcome
read_floor text buffer = floor_from (floor_verdict text (length buffer)) text buffer
