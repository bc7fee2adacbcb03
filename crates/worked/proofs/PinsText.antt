-- Floor text: its header, sizes, letters and rows, each limit on both sides, the lines named, and 11 before 2 before 12.
use Prim.Native.Nat.{ℕ}
use Prim.Native.String.{String}
use mathlib.Core.Path.{◌≡◌, refl}
use mathlib.Core.List.{List, [], ◌∷◌, ◌++◌, map}
use lib.ListN.{set, replicate}
use Rattle.learning.specs.Ground.{list_of}
use Rattle.answers.specs.declared.Place.{Place}
use Rattle.answers.specs.declared.Place.TheVariants as P
use Rattle.answers.specs.Outcomes.{Verdict, read_sizes}
use Rattle.std.specs.Prelude.{Ok, Err}
use Rattle.model.specs.FloorText.{FloorOutcome, read_floor, floor_verdict}
use Rattle.model.specs.Compute.{compute}
use Rattle.worked.proofs.Hall.{no}
use Rattle.worked.proofs.Text.{bytes, times}

-- a text read into a buffer of so many 9s; and refused, so that the buffer stays
abbrev reads : List ℕ → ℕ → FloorOutcome
reads text room = read_floor text (replicate room 9)

abbrev Unread : String → (room number : ℕ) → Place → Type 0
Unread text room number place =
    reads (bytes text) room ≡ record { answer = Err (record { number = number; place = place }); buffer = replicate room 9 }

-- a floor of one column, its height written so; and of one row, its width written so
abbrev high : String → ℕ → Verdict
high height n = floor_verdict (bytes "type octile\nheight " ++ (bytes height ++ (bytes "\nwidth 1\nmap\n" ++ times n (bytes ".\n")))) 64

abbrev wide : String → ℕ → Verdict
wide width n = floor_verdict (bytes "type octile\nheight 1\nwidth " ++ (bytes width ++ (bytes "\nmap\n" ++ (times n (bytes ".") ++ bytes "\n")))) 64

-- the least floor text
abbrev dot : List ℕ
dot = bytes "type octile\nheight 1\nwidth 1\nmap\n.\n"

pub record PinsText : Type 0 where
  -- `.` and `G` are free, byte 0; `@`, `O`, `T` blocked, byte 1; `S` slow, byte 2. Buffer bytes beyond width × height are untouched
  pub letters : reads (bytes "type octile\nheight 2\nwidth 3\nmap\n.G@\nOTS\n") 8
      ≡ record { answer = read_sizes 3 2; buffer = 0 ∷ 0 ∷ 1 ∷ 1 ∷ 1 ∷ 2 ∷ 9 ∷ 9 ∷ [] }
  -- `S` no longer gives 12
  pub lane : reads (bytes "type octile\nheight 1\nwidth 1\nmap\nS\n") 1 ≡ record { answer = read_sizes 1 1; buffer = 2 ∷ [] }
  -- Any other letter, `W` and a small `s` included, is refused
  pub small-s : Unread "type octile\nheight 1\nwidth 1\nmap\ns\n" 1 12 (P.Line 5)
  pub beside-s : Unread "type octile\nheight 1\nwidth 1\nmap\nR\n" 1 12 (P.Line 5)
  pub water : Unread "type octile\nheight 1\nwidth 1\nmap\nW\n" 1 12 (P.Line 5)
  pub small : Unread "type octile\nheight 1\nwidth 1\nmap\ng\n" 1 12 (P.Line 5)
  pub hyphen : Unread "type octile\nheight 1\nwidth 1\nmap\n-\n" 1 12 (P.Line 5)
  pub between : Unread "type octile\nheight 1\nwidth 1\nmap\nN\n" 1 12 (P.Line 5)
  -- 11: header: no byte of it may be another, or be left out
  pub header : map (λ i. floor_verdict (set dot i 120) 1) (list_of 33 (λ i. i)) ≡ replicate 33 (no 11 P.Nowhere)
  pub header-short : map (λ i. floor_verdict (list_of i (λ k. k)) 1) (0 ∷ 1 ∷ []) ≡ no 11 P.Nowhere ∷ no 11 P.Nowhere ∷ []
  pub header-cut : Unread "type octile\nheight 1\nwidth 1\nmap" 1 11 P.Nowhere
  pub swapped : Unread "type octile\nwidth 1\nheight 1\nmap\n.\n" 1 11 P.Nowhere
  -- or its sizes: 1 to 64 with no zero in front
  pub heights : high "1" 1 ∷ high "9" 9 ∷ high "10" 10 ∷ high "19" 19 ∷ high "64" 64 ∷ [] ≡ replicate 5 (Ok tt)
  pub widths : wide "1" 1 ∷ wide "9" 9 ∷ wide "10" 10 ∷ wide "19" 19 ∷ wide "64" 64 ∷ [] ≡ replicate 5 (Ok tt)
  pub no_height : high "0" 0 ∷ high "01" 1 ∷ high "65" 65 ∷ high "100" 100 ∷ high "" 0 ∷ high "1 " 1 ∷ high " 1" 1 ∷ high "1:" 20 ∷ high "1/" 9 ∷ high ":" 10 ∷ high "/" 1 ∷ []
      ≡ replicate 11 (no 11 P.Nowhere)
  pub no_width : wide "0" 0 ∷ wide "01" 1 ∷ wide "65" 65 ∷ wide "100" 100 ∷ wide "" 0 ∷ wide "1 " 1 ∷ wide " 1" 1 ∷ wide "1:" 20 ∷ wide "1/" 9 ∷ wide ":" 10 ∷ wide "/" 1 ∷ []
      ≡ replicate 11 (no 11 P.Nowhere)
  -- each line ended by LF
  pub line-ends : map (λ t. floor_verdict (bytes t ++ times 10 (bytes ".\n")) 64)
      ("type octile\nheight 1\twidth 1\nmap\n" ∷ "type octile\nheight 10\twidth 1\nmap\n" ∷ "type octile\nheight :\nxwidth 1\nmap\n" ∷ [])
      ≡ replicate 3 (no 11 P.Nowhere)
  -- in floor text 11 comes before 2
  pub eleven_first : Unread "type octile\nheight 2\nwidth 2\nmao\n..\n..\n" 3 11 P.Nowhere
  -- 2: floor buffer too short; before 12
  pub two : Unread "type octile\nheight 2\nwidth 2\nmap\n..\n.W\n" 3 2 P.Nowhere
  pub room : reads (bytes "type octile\nheight 2\nwidth 2\nmap\n..\n.@\n") 4 ≡ record { answer = read_sizes 2 2; buffer = 0 ∷ 0 ∷ 0 ∷ 1 ∷ [] }
  -- 12: a row too short, too long or without its LF, or bytes after the last; names the first such line, counted from 1 at the `type` line
  pub row-short : Unread "type octile\nheight 2\nwidth 2\nmap\n.\n..\n" 4 12 (P.Line 5)
  pub row-long : Unread "type octile\nheight 2\nwidth 2\nmap\n..\n...\n" 4 12 (P.Line 6)
  pub row_unended : Unread "type octile\nheight 2\nwidth 2\nmap\n..\n.." 4 12 (P.Line 6)
  pub row_tab : Unread "type octile\nheight 1\nwidth 1\nmap\n.\t" 1 12 (P.Line 5)
  pub row_missing : Unread "type octile\nheight 2\nwidth 2\nmap\n..\n" 4 12 (P.Line 6)
  pub no_rows : Unread "type octile\nheight 2\nwidth 2\nmap\n" 4 12 (P.Line 5)
  pub row_first : Unread "type octile\nheight 3\nwidth 2\nmap\n.x\n..\n.x\nx" 6 12 (P.Line 5)
  pub row_last : Unread "type octile\nheight 3\nwidth 2\nmap\n..\n..\nx.\nx" 6 12 (P.Line 7)
  pub after_last : Unread "type octile\nheight 3\nwidth 2\nmap\n..\n..\n..\nx" 6 12 (P.Line 8)
  pub after_empty : Unread "type octile\nheight 1\nwidth 1\nmap\n.\n\n" 1 12 (P.Line 6)

pub pins_text : PinsText
unfolding compute
pins_text = record {
  letters = refl;
  lane = refl;
  small-s = refl;
  beside-s = refl;
  water = refl;
  small = refl;
  hyphen = refl;
  between = refl;
  header = refl;
  header-short = refl;
  header-cut = refl;
  swapped = refl;
  heights = refl;
  widths = refl;
  no_height = refl;
  no_width = refl;
  line-ends = refl;
  eleven_first = refl;
  two = refl;
  room = refl;
  row-short = refl;
  row-long = refl;
  row_unended = refl;
  row_tab = refl;
  row_missing = refl;
  no_rows = refl;
  row_first = refl;
  row_last = refl;
  after_last = refl;
  after_empty = refl;
}
