-- What the functions of floor text promise.
use Rattle.std.specs.Prelude.{ℕ, ◌≤◌, ◌≡◌, List, drop, Ok}
use Rattle.answers.specs.Says.{says_floor_read}
use Rattle.answers.specs.declared.Place.TheVariants as P
use Rattle.answers.specs.Outcomes.{FloorRead}
use Rattle.model.specs.Basics.{refuse_at}
use Rattle.model.specs.FloorText.{FloorOutcome, size_in, size_bytes, header, width_in, height_in, rows_in}

-- a size and its LF at the front of a text, and the text after them
pub record Stands (text : List ℕ) (n : ℕ) (after : List ℕ) : Type 0 where
  pub size : n ≡ size_in text
  pub one : 1 ≤ n
  pub most : n ≤ 64
  pub past : after ≡ drop (size_bytes n) text

-- an accepted header with its sizes, and the rows after it
pub record Sound (text : List ℕ) (w h : ℕ) (after : List ℕ) : Type 0 where
  pub accepted : header text ≡ Ok tt
  pub width : w ≡ width_in text
  pub height : h ≡ height_in text
  pub narrow : w ≤ 64
  pub low : h ≤ 64
  pub past : after ≡ rows_in text

-- no header that is accepted
abbrev pub NoHeader : List ℕ → Type 0
NoHeader text = header text ≡ refuse_at 11 P.Nowhere

-- the public call: the answer by its number and values, and the buffer as it leaves it
pub record Reads (o : FloorOutcome) (r : FloorRead) (after : List ℕ) : Type 0 where
  pub answer : says_floor_read r ≡ says_floor_read o.answer
  pub buffer : after ≡ o.buffer
