-- Texts as bytes, so that a case shows its text in letters.
use Prim.Native.Nat.{ℕ, zero, suc}
use Prim.Native.Char.{code}
use Prim.Native.String.{String}
use Prim.Native.String as S
use mathlib.Core.List.{List, [], ◌∷◌, ◌++◌}

-- the bytes of a text, one for each of its letters, which are all ASCII
abbrev pub bytes : String → List ℕ
bytes S.[] = []
bytes (S.◌∷◌ c s) = code c ∷ bytes s

-- a text so many times over
abbrev pub times : ℕ → List ℕ → List ℕ
times zero xs = []
times (suc n) xs = xs ++ times n xs
