-- What writing some bytes from a place on leaves: they stand there, all else is as it was, and the next place is after them.
use Rattle.std.specs.Prelude.{ℕ, ◌+◌, ◌≡◌, List, length}
use Rattle.std.proofs.lemmas.List.Edits.{sets}

pub record Printed (out : List ℕ) (at : ℕ) (bytes out' : List ℕ) (end : ℕ) : Type 0 where
  pub written : out' ≡ sets out at bytes
  pub next : end ≡ at + length bytes
