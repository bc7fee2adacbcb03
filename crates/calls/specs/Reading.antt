-- What reading leaves of a reader.
use Rattle.std.specs.Prelude.{◌≤◌, length}
use Rattle.numbers.specs.declared.Reader.{Reader}

-- one within its input stays within
abbrev pub Stays : Reader → Reader → Type 0
Stays r r' = r.at ≤ length r.input.now → r'.at ≤ length r'.input.now
