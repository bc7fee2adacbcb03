-- What the program answers: what is renewed of a stream's last bytes is renewed of all of it.
use Rattle.std.specs.Prelude.{ℕ, ◌≤◌, ◌<◌, ◌≡◌, List, length, get_or, take}
use Rattle.answers.specs.Outcomes.{Written}
use Rattle.std.specs.Prelude.{Ok}
use Rattle.model.specs.Renewal.{renew_file}
use Rattle.model.specs.Writing.{Writes}
use Rattle.renew.specs.Kept.{Kept}

pub record Answered (last out : List ℕ) (r : Written) (out' : List ℕ) : Type 0 where
  -- of the bytes that are held,
  pub held : Writes (renew_file last out) r out'
  -- of every stream of bytes that they are the last of, where these are all of it or as many as the longest file has,
  pub whole : (all kept : List ℕ) → ((k : ℕ) → get_or all k 0 < 256) → Kept all kept (length last) → take (length last) kept ≡ last → Writes (renew_file all out) r out'
  -- and the length that is answered is one of the list's
  pub fits : (n : ℕ) → r ≡ Ok n → n ≤ length out'
