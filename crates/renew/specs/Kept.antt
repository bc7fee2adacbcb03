-- What is held of a stream: the last bytes of all that went in.
use Rattle.std.specs.Prelude.{ℕ, ◌≤◌, ◌≡◌, List, ◌⊎◌, length, take}
use Rattle.model.specs.Basics.{at_end}
use Rattle.model.specs.Renewal.{longest}

pub record Kept (all kept : List ℕ) (held : ℕ) : Type 0 where
  -- they stand in the list's first places,
  pub within : held ≤ length kept
  -- are no more than went in,
  pub some : held ≤ length all
  -- the last so many of it,
  pub last : take held kept ≡ at_end held all
  -- and all of it, or as many as the longest file has
  pub enough : (held ≡ length all) ⊎ (longest ≤ held)

-- so much of some stream: of all that was handed over, part after part. Which bytes these are the C library's `read` does not promise
abbrev pub Taken : (kept : List ℕ) → (held : ℕ) → Type 0
Taken kept held = (all : List ℕ) × Kept all kept held
