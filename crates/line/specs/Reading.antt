-- A line being read number by number: what each step keeps, and what the whole line says.
use Rattle.std.specs.Prelude.{ℕ, ◌≤◌, ◌<◌, ◌≡◌, true, false, List, [], ◌∷◌, ◌++◌, length, take, drop, Some, None}
use Rattle.std.specs.Prelude.{Option as Optional}
use Rattle.std.proofs.Math.Option.{Option, none, some}
use Rattle.answers.specs.declared.Settings.{Settings}
use Rattle.model.specs.Line.{numbers_in, read_line, after_line}
use Rattle.line.specs.declared.Word.{Word}
use Rattle.line.specs.declared.Reading.{Reading}
use Rattle.line.specs.declared.Asked.{Asked}

-- a line's numbers with the one before them, and with several
abbrev pub joined : ℕ → Option (List ℕ) → Option (List ℕ)
joined v o = elim o [ none ↦ none | some ns ↦ some (v ∷ ns) ]

abbrev pub after : List ℕ → Option (List ℕ) → Option (List ℕ)
after ns none = none
after ns (some ms) = some (ns ++ ms)

-- the numbers read so far
abbrev pub numbers_of : Reading → List ℕ
numbers_of r = take r.count r.numbers

-- no numbers, or more than seven
abbrev pub Beyond : Option (List ℕ) → Type 0
Beyond o = (ns : List ℕ) → o ≡ some ns → 7 < length ns

-- what stands at a place of the input is of another form than a number with a space or the LF
abbrev pub NoNumbers : (input : List ℕ) (from : ℕ) → Type 0
NoNumbers input from = numbers_in 0 0 (drop from input) ≡ none

-- a number at a place of the input with the byte after it, and what that does to a line which is read from there on
pub record IsWord (input : List ℕ) (from : ℕ) (w : Word) : Type 0 where
  -- it ends where the line goes on
  pub on : (from < w.next) × (w.next ≤ length input)
  -- the last number of its line, or one with others after it
  pub last : w.last ≡ true → (numbers_in 0 0 (drop from input) ≡ some (w.value ∷ [])) × (after_line (drop from input) ≡ drop w.next input)
  pub more : w.last ≡ false → (numbers_in 0 0 (drop from input) ≡ joined w.value (numbers_in 0 0 (drop w.next input)))
      × (after_line (drop from input) ≡ after_line (drop w.next input))

-- the line is malformed, or has more than seven numbers
abbrev pub TooMany : List ℕ → Type 0
TooMany input = Beyond (numbers_in 0 0 input)

-- the line's numbers, seven at most, and where the text after it begins
pub record Scanned (input : List ℕ) (r : Reading) : Type 0 where
  pub room : length r.numbers ≡ 7
  pub few : r.count ≤ 7
  pub numbers : numbers_in 0 0 input ≡ some (numbers_of r)
  pub text : drop r.end input ≡ after_line input
  pub within : r.end ≤ length input

-- the settings that numbers ask for, in the model's words
abbrev pub said : Optional Settings → Option Settings
said None = none
said (Some s) = some s

-- the line asks for nothing
abbrev pub Malformed : List ℕ → Type 0
Malformed input = read_line input ≡ none

-- it asks for what the model's asks for, and the text after it begins at its place
pub record Asks (input : List ℕ) (a : Asked) : Type 0 where
  pub settings : read_line input ≡ some a.settings
  pub text : drop a.text input ≡ after_line input
  pub within : a.text ≤ length input
