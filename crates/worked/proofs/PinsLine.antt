-- The program `aisle`: its line, the defaults, the order of its checks and the lines it prints.
use Prim.Native.Nat.{ℕ}
use Prim.Native.String.{String}
use mathlib.Core.Path.{◌≡◌, refl}
use mathlib.Core.Option.{Option, none}
use mathlib.Core.List.{List, [], ◌∷◌, ◌++◌, map}
use lib.ListN.{replicate}
use Rattle.answers.specs.declared.Place.TheVariants as P
use Rattle.answers.specs.declared.Settings.{Settings}
use Rattle.model.specs.Line.{asked, read_line, decimal, refusal_line, aisle}
use Rattle.model.specs.Compute.{compute}
use Rattle.worked.proofs.Hall.{hall_text}
use Rattle.worked.proofs.Text.{bytes}

-- what a line says, and what `aisle` prints of a line and the worked floor, and of a line and any text
abbrev says : String → Option Settings
says line = read_line (bytes line)

abbrev on_hall : String → List ℕ
on_hall line = aisle (bytes line ++ hall_text)

abbrev prints : String → String → List ℕ
prints line text = aisle (bytes line ++ bytes text)

pub record PinsLine : Type 0 where
  -- `start goal depth p q quota trials`, LF at the end
  pub whole : says "6 5 8 3 2 1 7\n" ≡ asked 6 5 8 3 2 1 7
  -- The line may stop after goal, depth, q or quota; left out they are depth 4, weight 1/1, quota 1,000,000, trials 10
  pub to_goal : says "6 5\n" ≡ asked 6 5 4 1 1 1000000 10
  pub to_depth : says "6 5 2\n" ≡ asked 6 5 2 1 1 1000000 10
  pub to_q : says "6 5 8 3 2\n" ≡ asked 6 5 8 3 2 1000000 10
  pub to_quota : says "6 5 8 3 2 1\n" ≡ asked 6 5 8 3 2 1 10
  pub other_counts : map says ("\n" ∷ "6\n" ∷ "6 5 4 3\n" ∷ "6 5 4 3 2 1 7 8\n" ∷ "6 5 4 3 2 1 7 8 9\n" ∷ []) ≡ replicate 5 none
  -- Single spaces, 1 to 7 digits each, zeros in front change nothing
  pub digits : says "1234567 9876543\n" ≡ asked 1234567 9876543 4 1 1 1000000 10
  pub zeros : says "0000006 05 003\n" ≡ asked 6 5 3 1 1 1000000 10
  pub eight_digits : map says ("00000006 0\n" ∷ "6 12345678\n" ∷ []) ≡ replicate 2 none
  pub spaces : map says (" 6 0\n" ∷ "6  0\n" ∷ "6 0 \n" ∷ "6\t0\n" ∷ []) ≡ replicate 4 none
  pub letters : map says ("6 x\n" ∷ "6 0/\n" ∷ "6 0:\n" ∷ "-6 0\n" ∷ "6 0\r\n" ∷ "6 0\t\n" ∷ []) ≡ replicate 6 none
  pub no_end : map says ("" ∷ "6 0" ∷ []) ≡ replicate 2 none
  -- what stands after the line is no part of it
  pub after : says "6 5\nx\n" ≡ asked 6 5 4 1 1 1000000 10
  -- the line malformed: 3, before the floor text
  pub malformed : prints "6 0 1 1\n" "x" ≡ bytes "refused 3\n"
  -- `aisle` judges its line with its settings, then the floor text, then the rest
  pub setting : prints "6 0 9\n" "x" ≡ bytes "refused 3\n"
  pub trials_0 : prints "6 0 1 1 1 0 0\n" "x" ≡ bytes "refused 3\n"
  pub trials_1001 : prints "6 0 1 1 1 0 1001\n" "x" ≡ bytes "refused 3\n"
  pub header : prints "9 9\n" "x" ≡ bytes "refused 11\n"
  pub row : prints "9 9\n" "type octile\nheight 1\nwidth 2\nmap\n.W\n" ≡ bytes "refused 12 5\n"
  pub start_off : prints "2 1\n" "type octile\nheight 1\nwidth 2\nmap\n..\n" ≡ bytes "refused 4\n"
  pub no_walk : prints "0 2\n" "type octile\nheight 1\nwidth 3\nmap\n.@.\n" ≡ bytes "refused 6\n"
  -- the greatest floor has room: 12, not 2
  pub greatest : prints "0 0\n" "type octile\nheight 64\nwidth 64\nmap\n" ≡ bytes "refused 12 5\n"
  -- a trial line is its moves (`-` if none), decisions, learned, kept cost, travel
  pub at_goal_lem : on_hall "0 0\n" ≡ bytes "- 0 0 0 0\nsettled 1\n"
  pub defaults : on_hall "6 0\n" ≡ bytes "220066 2 40 60 60\n220066 2 0 60 60\nsettled 2\n"
  pub one_ahead : on_hall "6 0 1\n" ≡ bytes "220066 6 40 60 60\n220066 6 26 60 60\n220066 6 12 60 60\n220066 6 6 60 60\n220066 6 0 60 60\nsettled 5\n"
  -- a path longer than width and height together
  pub long_path : prints "0 12 1 1 1 1000000 1\n" "type octile\nheight 4\nwidth 4\nmap\n.@..\n....\n@@@.\n....\n" ≡ bytes "42202444666 11 80 110 110\nunsettled 1\n"
  -- a floor wider than high
  pub oblong : prints "3 7\n" "type octile\nheight 2\nwidth 4\nmap\n....\n@@@.\n" ≡ bytes "4 1 0 10 10\nsettled 1\n"
  -- its table is the opening one, by q
  pub scaled : on_hall "6 0 1 1 2 0 10\n" ≡ bytes "262266220466220066 22 68 60 180\n220066 6 0 60 60\nsettled 2\n"
  -- the last line is `settled` or `unsettled` and the trials made
  pub unsettled : on_hall "6 0 1 1 1 0 1\n" ≡ bytes "262266220466220066 22 84 60 180\nunsettled 1\n"
  -- numbers in decimal
  pub decimals : map decimal (0 ∷ 9 ∷ 10 ∷ 99 ∷ 100 ∷ 917280 ∷ 18446744073709551615 ∷ [])
      ≡ bytes "0" ∷ bytes "9" ∷ bytes "10" ∷ bytes "99" ∷ bytes "100" ∷ bytes "917280" ∷ bytes "18446744073709551615" ∷ []
  -- a refusal prints only one line: `refused`, its number and any place
  pub places : map (λ p. refusal_line (record { number = 18; place = p })) (P.Nowhere ∷ P.Cell 10 ∷ P.Line 5 ∷ P.Record 0 ∷ [])
      ≡ bytes "refused 18\n" ∷ bytes "refused 18 10\n" ∷ bytes "refused 18 5\n" ∷ bytes "refused 18 0\n" ∷ []

pub pins_line : PinsLine
unfolding compute
pins_line = record {
  whole = refl;
  to_goal = refl;
  to_depth = refl;
  to_q = refl;
  to_quota = refl;
  other_counts = refl;
  digits = refl;
  zeros = refl;
  eight_digits = refl;
  spaces = refl;
  letters = refl;
  no_end = refl;
  after = refl;
  malformed = refl;
  setting = refl;
  trials_0 = refl;
  trials_1001 = refl;
  header = refl;
  row = refl;
  start_off = refl;
  no_walk = refl;
  greatest = refl;
  at_goal_lem = refl;
  defaults = refl;
  one_ahead = refl;
  long_path = refl;
  oblong = refl;
  scaled = refl;
  unsettled = refl;
  decimals = refl;
  places = refl;
}
