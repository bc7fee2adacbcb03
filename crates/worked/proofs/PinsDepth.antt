-- Stored lines with their depth: one line with each fault alone and each limit on both sides, and lists of lines.
use Prim.Native.Nat.{ℕ}
use Prim.Native.String.{String}
use mathlib.Core.Path.{◌≡◌, refl}
use mathlib.Core.List.{List, [], ◌∷◌, ◌++◌, map}
use lib.ListN.{length, replicate, drop}
use Rattle.answers.specs.declared.Place.TheVariants as P
use Rattle.answers.specs.Outcomes.{Verdict}
use Rattle.std.specs.Prelude.{Ok, Err}
use Rattle.model.specs.Line.{aisle_by, aisle}
use Rattle.model.specs.KeepDepth.{old_depth, line_form, with_old_depth, with_depth, lines_of, longest_line, keep_depth}
use Rattle.model.specs.Compute.{compute}
use Rattle.worked.proofs.Hall.{hall_text, no}
use Rattle.worked.proofs.Text.{bytes, times}

-- a line with its depth
abbrev Becomes : (line new : String) → Type 0
Becomes line new = (line_form (bytes line) ≡ Ok tt) × (with_old_depth (bytes line) ≡ bytes new)

-- lines that are copied, and malformed ones
abbrev stays : String → Verdict × List ℕ
stays line = (line_form (bytes line), with_old_depth (bytes line))

abbrev stayed : String → Verdict × List ℕ
stayed line = (Ok tt, bytes line)

abbrev Malformed : List String → Type 0
Malformed lines = map (λ line. line_form (bytes line)) lines ≡ map (λ line. no 3 P.Nowhere) lines

-- seven numbers of seven digits
abbrev sevens : String
sevens = "1234567 0000000 7654321 9999999 1000000 0000001 9876543\n"

-- written into so many places of 5, and refused, which leaves them
abbrev Written : (line : String) → (room : ℕ) → (new : String) → Type 0
Written line room new = with_depth (bytes line) (replicate room 5) ≡ record { answer = Ok (length (bytes new)); buffer = bytes new ++ drop (length (bytes new)) (replicate room 5) }

abbrev Unwritten : (line : String) → (room number : ℕ) → Type 0
Unwritten line room number = with_depth (bytes line) (replicate room 5) ≡ record { answer = Err (record { number = number; place = P.Nowhere }); buffer = replicate room 5 }

-- a list of lines copied, and one that stops at a line
abbrev Copies : (lines written : String) → Type 0
Copies lines written = keep_depth (bytes lines) ≡ record { written = bytes written; verdict = Ok tt }

abbrev Stops : (lines written : String) → (line : ℕ) → Type 0
Stops lines written line = keep_depth (bytes lines) ≡ record { written = bytes written; verdict = no 3 (P.Line line) }

pub record PinsDepth : Type 0 where
  -- two numbers become three, all else as it stood: zeros in front, seven digits, places off any floor
  pub two : Becomes "6 5\n" "6 5 1\n"
  pub zeros : Becomes "0000006 05\n" "0000006 05 1\n"
  pub digits : Becomes "1234567 9876543\n" "1234567 9876543 1\n"
  -- a line that gives a depth is copied byte for byte, whatever its settings
  pub given : map stays ("6 5 4\n" ∷ "6 5 4 3 2\n" ∷ "6 5 4 3 2 1\n" ∷ "6 5 4 3 2 1 7\n" ∷ []) ≡ map stayed ("6 5 4\n" ∷ "6 5 4 3 2\n" ∷ "6 5 4 3 2 1\n" ∷ "6 5 4 3 2 1 7\n" ∷ [])
  pub out_of_range : map stays ("6 5 0\n" ∷ "6 5 009\n" ∷ "6 5 1 3 2 9999999 0\n" ∷ []) ≡ map stayed ("6 5 0\n" ∷ "6 5 009\n" ∷ "6 5 1 3 2 9999999 0\n" ∷ [])
  -- the longest line
  pub longest : (stays sevens ≡ stayed sevens) × (length (bytes sevens) ≡ longest_line)
  -- 3: by `aisle`'s own rule of form
  pub counts : Malformed ("\n" ∷ "6\n" ∷ "6 5 4 3\n" ∷ "6 5 4 3 2 1 7 8\n" ∷ "6 5 4 3 2 1 7 8 9\n" ∷ [])
  pub eight_digits : Malformed ("00000006 0\n" ∷ "6 12345678\n" ∷ [])
  pub spaces : Malformed (" 6 0\n" ∷ "6  0\n" ∷ "6 0 \n" ∷ "6\t0\n" ∷ "6 0\r\n" ∷ "6 x\n" ∷ [])
  -- no LF, one inside, and bytes after it
  pub no_end : Malformed ("" ∷ "6 0" ∷ "6 0 1" ∷ [])
  pub inside : Malformed ("6 0\n\n" ∷ "6\n0\n" ∷ "6 0\n6 0\n" ∷ "6 0 1\n6 0 1\n" ∷ "6 0\nx" ∷ [])
  -- nothing of a malformed line is changed
  pub as_it_stood : map (λ line. with_old_depth (bytes line)) ("6 0\n\n" ∷ "6 0" ∷ []) ≡ bytes "6 0\n\n" ∷ bytes "6 0" ∷ []
  -- written, in more than room enough, in room that is just enough, and in one place too few: 17; 3 comes first
  pub written : Written "6 5\n" 9 "6 5 1\n"
  pub written_given : Written "6 5 4\n" 9 "6 5 4\n"
  pub just_room : Written "6 5\n" 6 "6 5 1\n"
  pub just_room_given : Written "6 5 4\n" 6 "6 5 4\n"
  pub no_room : Unwritten "6 5\n" 5 17
  pub no_room_given : Unwritten "6 5 4\n" 5 17
  pub no_room_at_all : Unwritten "6 5\n" 0 17
  pub malformed : Unwritten "6 5 4 3\n" 9 3
  pub form_first : Unwritten "6\n" 0 3
  -- the lines of a text
  pub lines : lines_of (bytes "6 5\n\n6\nx") ≡ bytes "6 5\n" ∷ bytes "\n" ∷ bytes "6\n" ∷ bytes "x" ∷ []
  -- a list of lines, whatever each gives; none at all
  pub list : Copies "6 5\n6 5 4\n06 05\n6 5 1 1 2\n" "6 5 1\n6 5 4\n06 05 1\n6 5 1 1 2\n"
  pub empty : Copies "" ""
  -- the first malformed line is told by its number, from 1, and nothing is written from it on
  pub first : Stops "6\n6 5\n" "" 1
  pub third : Stops "6 5\n6 5 4\n6 5 4 3\n6 5\n" "6 5 1\n6 5 4\n" 3
  pub empty-line : Stops "6 5\n\n6 5\n" "6 5 1\n" 2
  pub last_end : Stops "6 5\n6 5 4" "6 5 1\n" 2
  pub two_faults : Stops "6 5\n6  5\n6\n" "6 5 1\n" 2
  pub twelfth : keep_depth (times 11 (bytes "6 5 4\n") ++ bytes "x\n") ≡ record { written = times 11 (bytes "6 5 4\n"); verdict = no 3 (P.Line 12) }
  -- a converted line prints what it printed before
  pub prints : aisle_by old_depth (bytes "6 0\n" ++ hall_text) ≡ aisle (with_old_depth (bytes "6 0\n") ++ hall_text)
  pub printed : aisle (with_old_depth (bytes "6 0\n") ++ hall_text) ≡ bytes "220066 6 40 60 60\n220066 6 26 60 60\n220066 6 12 60 60\n220066 6 6 60 60\n220066 6 0 60 60\nsettled 5\n"

pub pins_depth : PinsDepth
unfolding compute
pins_depth = record {
  two = (refl, refl);
  zeros = (refl, refl);
  digits = (refl, refl);
  given = refl;
  out_of_range = refl;
  longest = (refl, refl);
  counts = refl;
  eight_digits = refl;
  spaces = refl;
  no_end = refl;
  inside = refl;
  as_it_stood = refl;
  written = refl;
  written_given = refl;
  just_room = refl;
  just_room_given = refl;
  no_room = refl;
  no_room_given = refl;
  no_room_at_all = refl;
  malformed = refl;
  form_first = refl;
  lines = refl;
  list = refl;
  empty = refl;
  first = refl;
  third = refl;
  empty-line = refl;
  last_end = refl;
  two_faults = refl;
  twelfth = refl;
  prints = refl;
  printed = refl;
}
