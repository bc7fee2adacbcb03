-- Small functions that the sections share: a choice, tests over lists, the end of a list, and one check after another.
use Rattle.std.specs.Prelude.{ℕ, ◌-◌, Bool, true, false, not, ◌&&◌, ◌||◌, List, [], ◌∷◌, eqb, leb, ltb, length, drop}
use Rattle.learning.specs.Look.{lowest}
use Rattle.answers.specs.declared.Place.{Place}
use Rattle.answers.specs.declared.Place.TheVariants as P
use Rattle.answers.specs.Outcomes.{Verdict}
use Rattle.std.specs.Prelude.{Ok, Err}

-- a where the test passes, else b
abbrev pub choose : {A : Type 0} → Bool → A → A → A
choose true a b = a
choose false a b = b

abbrev pub between : ℕ → ℕ → ℕ → Bool
between a x b = leb a x && leb x b

-- whether every entry passes the test; whether one does; whether x stands in a list; whether no entry stands in it twice; whether each is above the one before
unfoldable pub every : (ℕ → Bool) → List ℕ → Bool
every test [] = true
every test (x ∷ xs) = test x && every test xs

unfoldable pub any : (ℕ → Bool) → List ℕ → Bool
any test [] = false
any test (x ∷ xs) = test x || any test xs

unfoldable pub member : ℕ → List ℕ → Bool
member x [] = false
member x (y ∷ ys) = eqb x y || member x ys

unfoldable pub distinct : List ℕ → Bool
distinct [] = true
distinct (x ∷ xs) = not (member x xs) && distinct xs

unfoldable pub rising : List ℕ → Bool
rising [] = true
rising (x ∷ []) = true
rising (x ∷ y ∷ ys) = ltb x y && rising (y ∷ ys)

-- the n entries at a list's end; all of them where there are fewer
abbrev pub at_end : (n : ℕ) → List ℕ → List ℕ
at_end n xs = drop (length xs - n) xs

-- one check after another: the first refusal stands
abbrev pub then : Verdict → Verdict → Verdict
then (Ok _) v = v
then (Err r) v = Err r

-- a refusal by its number, and where
abbrev pub refuse_at : ℕ → Place → Verdict
refuse_at number place = Err (record { number = number; place = place })

abbrev pub unless : Bool → ℕ → Verdict
unless true number = Ok tt
unless false number = refuse_at number P.Nowhere

-- refused where one of the cells 0 to n - 1 has the fault: it names the lowest
unfoldable pub naming : (n : ℕ) → (ℕ → Bool) → ℕ → Verdict
naming n fault number = let x = lowest n fault in choose (ltb x n) (refuse_at number (P.Cell x)) (Ok tt)
