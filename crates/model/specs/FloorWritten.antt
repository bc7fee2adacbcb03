-- Floor text written from a floor: "with `.`, `S` and `@`, so that it reads back the same; bytes above 2 mean blocked, are written `@` and read back as 1."
use Rattle.std.specs.Prelude.{ℕ, zero, suc, List, [], ◌∷◌, ◌++◌, map, eqb, length, take, drop}
use Rattle.answers.specs.Outcomes.{Verdict}
use Rattle.model.specs.Basics.{choose, then}
use Rattle.model.specs.Floor.{Floor, plain_byte, slow_byte}
use Rattle.model.specs.Checks.{sizes}
use Rattle.model.specs.Writing.{file_room, WriteOutcome, write_of}
use Rattle.model.specs.FloorText.{LF, type_and_height, and_width, and_map}
use Rattle.model.specs.Line.{decimal}

-- a byte's letter: `.` free, `S` slow, `@` every other
abbrev pub letter_of : ℕ → ℕ
letter_of b = choose (eqb b plain_byte) 46 (choose (eqb b slow_byte) 83 64)

-- the letters of n rows, each ended by LF
unfoldable pub rows_of : (width n : ℕ) → (bytes : List ℕ) → List ℕ
rows_of width zero bytes = []
rows_of width (suc n) bytes = map letter_of (take width bytes) ++ LF ∷ rows_of width n (drop width bytes)

-- a size in digits, with its LF
abbrev pub size_line : ℕ → List ℕ
size_line n = decimal n ++ LF ∷ []

-- the whole text: the header's lines, then the rows
unfoldable pub text_of : Floor → List ℕ
text_of f =
    type_and_height ++ (size_line f.height ++ (and_width ++ (size_line f.width ++ (and_map ++ rows_of f.width f.height f.bytes))))

-- 1, of the sizes and the floor's length: no table is taken, and the floor's own length stands for it. Then 17
unfoldable pub text_verdict : Floor → (room : ℕ) → Verdict
text_verdict f room = then (sizes f (length f.bytes)) (file_room (length (text_of f)) room)

unfoldable pub write_floor : Floor → (buffer : List ℕ) → WriteOutcome
write_floor f buffer = write_of (text_verdict f (length buffer)) (text_of f) buffer
