-- Floor text written from a floor: each letter, each number on both sides of its limit, 1 before 17, and the bytes beyond the text.
use Prim.Native.Nat.{ℕ}
use Prim.Native.String.{String}
use mathlib.Core.Path.{◌≡◌, refl}
use mathlib.Core.List.{List, [], ◌∷◌, ◌++◌}
use lib.ListN.{length, replicate}
use Rattle.answers.specs.Outcomes.{Verdict, read_sizes}
use Rattle.std.specs.Prelude.{Ok, Err}
use Rattle.answers.specs.declared.Place.TheVariants as P
use Rattle.model.specs.Floor.{Floor}
use Rattle.model.specs.FloorText.{read_floor}
use Rattle.model.specs.FloorWritten.{text_of, text_verdict, write_floor}
use Rattle.model.specs.Compute.{compute}
use Rattle.worked.proofs.Hall.{no}
use Rattle.worked.proofs.Text.{bytes, times}

abbrev floor : (width height : ℕ) → List ℕ → Floor
floor width height cells = record { width = width; height = height; bytes = cells }

-- a floor written into a buffer of so many 9s: the whole text, then what is left of them; and refused, so that the buffer stays
abbrev Written : Floor → (room : ℕ) → String → (left : ℕ) → Type 0
Written f room text left = write_floor f (replicate room 9) ≡ record { answer = Ok (length (bytes text)); buffer = bytes text ++ replicate left 9 }

abbrev Unwritten : Floor → (room number : ℕ) → Type 0
Unwritten f room number = write_floor f (replicate room 9) ≡ record { answer = Err (record { number = number; place = P.Nowhere }); buffer = replicate room 9 }

-- a floor of so many free cells, where the largest text has room
abbrev judged : (width height cells : ℕ) → Verdict
judged width height cells = text_verdict (floor width height (replicate cells 0)) 4195

-- two rows with every kind of byte
abbrev kinds : Floor
kinds = floor 3 2 (0 ∷ 1 ∷ 2 ∷ 3 ∷ 255 ∷ 0 ∷ [])

pub record PinsFloorWritten : Type 0 where
  -- "With `.`, `S` and `@`": 0 is free, 2 slow, 1 blocked; "bytes above 2 mean blocked, are written `@`"; height before width, and the rows from the top
  pub letters : Written kinds 41 "type octile\nheight 2\nwidth 3\nmap\n.@S\n@@.\n" 0
  -- "and read back as 1"
  pub back : read_floor (text_of kinds) (replicate 7 9) ≡ record { answer = read_sizes 3 2; buffer = 0 ∷ 1 ∷ 2 ∷ 1 ∷ 1 ∷ 0 ∷ 9 ∷ [] }
  -- "Writing answers 17 for no room": one byte short, none, and just enough
  pub short : Unwritten kinds 40 17
  pub none : Unwritten kinds 0 17
  -- the least floor; nothing is touched beyond the text
  pub least : Written (floor 1 1 (0 ∷ [])) 36 "type octile\nheight 1\nwidth 1\nmap\n.\n" 1
  pub slow : Written (floor 1 1 (2 ∷ [])) 35 "type octile\nheight 1\nwidth 1\nmap\nS\n" 0
  -- sizes of one digit and of two, with room to the byte
  pub nine : Written (floor 9 1 (replicate 9 1)) 43 "type octile\nheight 1\nwidth 9\nmap\n@@@@@@@@@\n" 0
  pub ten : Written (floor 10 1 (replicate 10 1)) 45 "type octile\nheight 1\nwidth 10\nmap\n@@@@@@@@@@\n" 0
  pub ten_high : Written (floor 1 10 (replicate 10 2)) 54 "type octile\nheight 10\nwidth 1\nmap\nS\nS\nS\nS\nS\nS\nS\nS\nS\nS\n" 0
  pub ten_short : Unwritten (floor 10 1 (replicate 10 1)) 44 17
  pub widest : text_of (floor 64 1 (replicate 64 0)) ≡ bytes "type octile\nheight 1\nwidth 64\nmap\n" ++ (times 64 (bytes ".") ++ bytes "\n")
  pub highest : text_of (floor 1 64 (replicate 64 0)) ≡ bytes "type octile\nheight 64\nwidth 1\nmap\n" ++ times 64 (bytes ".\n")
  -- the largest floor takes 4,195 bytes
  pub largest : judged 64 64 4096 ∷ text_verdict (floor 64 64 (replicate 4096 0)) 4194 ∷ [] ≡ Ok tt ∷ no 17 P.Nowhere ∷ []
  -- 1: width or height outside 1 to 64, or the floor's length not width × height; before 17
  pub sizes : judged 1 1 1 ∷ judged 64 1 64 ∷ judged 1 64 64 ∷ [] ≡ replicate 3 (Ok tt)
  pub no_sizes : judged 0 1 0 ∷ judged 1 0 0 ∷ judged 0 0 0 ∷ judged 65 1 65 ∷ judged 1 65 65 ∷ judged 2 2 3 ∷ judged 2 2 5 ∷ [] ≡ replicate 7 (no 1 P.Nowhere)
  pub one_first : Unwritten (floor 2 2 (replicate 3 0)) 0 1
  pub one_stays : Unwritten (floor 65 1 (replicate 65 0)) 50 1

pub pins_floor_written : PinsFloorWritten
unfolding compute
pins_floor_written = record {
  letters = refl;
  back = refl;
  short = refl;
  none = refl;
  least = refl;
  slow = refl;
  nine = refl;
  ten = refl;
  ten_high = refl;
  ten_short = refl;
  widest = refl;
  highest = refl;
  largest = refl;
  sizes = refl;
  no_sizes = refl;
  one_first = refl;
  one_stays = refl;
}
