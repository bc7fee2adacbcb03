-- What writing answers and leaves, be it a table file or a floor text.
use Rattle.std.specs.Prelude.{ℕ, ◌≡◌, List, ◌++◌, leb, length, drop}
use Rattle.answers.specs.Says.{says_written}
use Rattle.answers.specs.Outcomes.{Verdict, Written}
use Rattle.std.specs.Prelude.{Ok, Err}
use Rattle.model.specs.Basics.{unless}

-- 17: no room
unfoldable pub file_room : (bytes room : ℕ) → Verdict
file_room bytes room = unless (leb bytes room) 17

-- the list is filled from the first byte, the length answered, and nothing touched beyond
pub record WriteOutcome : Type 0 where
  pub answer : Written
  pub buffer : List ℕ

abbrev pub write_of : Verdict → (file buffer : List ℕ) → WriteOutcome
write_of (Ok _) file buffer = record { answer = Ok (length file); buffer = file ++ drop (length file) buffer }
write_of (Err r) file buffer = record { answer = Err r; buffer = buffer }

-- what a call that writes promises: the answer by its number and values, and the buffer as it is left
pub record Writes (o : WriteOutcome) (r : Written) (after : List ℕ) : Type 0 where
  pub answer : says_written r ≡ says_written o.answer
  pub buffer : after ≡ o.buffer
