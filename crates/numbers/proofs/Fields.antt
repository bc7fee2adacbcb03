-- Lists that are printed, whatever their entries: one entry more. Assumes nothing.
use Rattle.std.proofs.Common.{◌≡◌, ℕ, ◌+◌, ◌<◌, List, [], ◌∷◌, ◌++◌, length, map, get_or, take, sym, ap, ◌∙◌, append-nil, append_assoc}
use Rattle.std.proofs.lemmas.List.{map-append, take_more}
use Rattle.model.specs.Line.{field}
use Rattle.numbers.specs.Printing.{fields_of}

fields-snoc : (xs : List ℕ) (x : ℕ) → fields_of (xs ++ x ∷ []) ≡ fields_of xs ++ field x
unfolding fields_of
fields-snoc [] x = append-nil (field x)
fields-snoc (y ∷ xs) x = ap (λ l. field y ++ l) (fields-snoc xs x) ∙ sym (append_assoc (field y) (fields_of xs) (field x))

pub fields-take_more : {A : Type 0} (number : A → ℕ) (list : List A) (i : ℕ) (x : A) → i < length list → x ≡ get_or list i x
    → fields_of (map number (take (i + 1) list)) ≡ fields_of (map number (take i list)) ++ field (number x)
fields-take_more number list i x h e = rw (take_more list i x h, ← e, map-append) (fields-snoc (map number (take i list)) (number x))
