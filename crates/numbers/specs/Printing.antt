-- A list printed: each entry after one space.
use Rattle.std.specs.Prelude.{ℕ, List, [], ◌∷◌, ◌++◌}
use Rattle.model.specs.Line.{field}

unfoldable pub fields_of : List ℕ → List ℕ
fields_of [] = []
fields_of (x ∷ xs) = field x ++ fields_of xs
