-- Records as numbers: one record more is read from its four places, and written to them.
use Prim.Native.Nat.{ℕ, zero, suc, ◌+◌, ◌*◌, ◌≤◌, ◌<◌}
use mathlib.Core.Path.{◌≡◌, refl, sym, ap, ◌∙◌}
use mathlib.Core.List.{List, [], ◌∷◌, ◌++◌}
use native.Mathlib.Numerals.{add-one, add-two, add-three}
use native.Mathlib.Omega.{arith}
use lib.ListN.{length, get_or, set, take, drop, length-append, length-drop}
use lib.Seq.{sets, sets-eq, take-suc, take-suc-set, take_at, drop-append-add, drop-drop, length-take-le}
use Rattle.answers.specs.declared.Report.{Report}
use Rattle.run.specs.Numbers.{record_at, records, numbers, put}

-- ---- read

pub records_none : (cs : List ℕ) → records cs 0 ≡ []
unfolding records
records_none cs = refl

pub read_more : (cs : List ℕ) (rs : List Report) (i : ℕ) (r : Report) → i < length rs → take i rs ≡ records cs i → r ≡ record_at cs i → take (i + 1) (set rs i r) ≡ records cs (i + 1)
unfolding records
read_more cs rs i r h e at =
    ap (λ (k : ℕ). take k (set rs i r)) (add-one i) ∙ take-suc-set rs i r h ∙ (λ j. e j ++ (at j ∷ [])) ∙ ap (records cs) (sym (add-one i))

pub length-records : (cs : List ℕ) (n : ℕ) → length (records cs n) ≡ n
unfolding records
length-records cs zero = refl
length-records cs (suc n) = length-append (records cs n) (record_at cs n ∷ []) ∙ omega (arith, length-records cs n)

-- ---- written

length-numbers : (rs : List Report) → length (numbers rs) ≡ length rs * 4
unfolding numbers
length-numbers [] = refl
length-numbers (r ∷ rs) = omega (arith, length-numbers rs)

numbers_more : (rs : List Report) (r : Report) → numbers (rs ++ (r ∷ [])) ≡ numbers rs ++ (r.decisions ∷ r.learned ∷ r.kept ∷ r.travel ∷ [])
unfolding numbers
numbers_more [] r = refl
numbers_more (x ∷ rs) r = ap (λ xs. x.decisions ∷ x.learned ∷ x.kept ∷ x.travel ∷ xs) (numbers_more rs r)

pub written_none : (cs : List ℕ) (rs : List Report) → numbers (take 0 rs) ++ drop (0 * 4) cs ≡ cs
unfolding numbers
written_none cs rs = refl

four : Report → List ℕ
four r = r.decisions ∷ r.learned ∷ r.kept ∷ r.travel ∷ []

put_is : (cs : List ℕ) (i : ℕ) (r : Report) → put cs i r ≡ sets cs (i * 4) (four r)
unfolding four
put_is cs i r = rw (add-one, add-two, add-three)

write_at : (cs : List ℕ) (rs : List Report) (i : ℕ) (d : Report) → i < length rs → i * 4 + 4 ≤ length cs
    → put (numbers (take i rs) ++ drop (i * 4) cs) i (get_or rs i d) ≡ numbers (take (i + 1) rs) ++ drop ((i + 1) * 4) cs
unfolding four
write_at cs rs i d h l =
    let p = numbers (take i rs) in
    let r = get_or rs i d in
    let long : length p ≡ i * 4 = length-numbers (take i rs) ∙ ap (λ (n : ℕ). n * 4) (length-take-le i rs (omega arith)) in
    let room : i * 4 + 4 ≤ length (p ++ drop (i * 4) cs) = omega (arith, long, length-append p (drop (i * 4) cs), length-drop (i * 4) cs) in
    let left : take (i * 4) (p ++ drop (i * 4) cs) ≡ p = take_at p (drop (i * 4) cs) (i * 4) long in
    let right : drop (i * 4 + 4) (p ++ drop (i * 4) cs) ≡ drop ((i + 1) * 4) cs =
    ap (λ (n : ℕ). drop (n + 4) (p ++ drop (i * 4) cs)) (sym long) ∙ drop-append-add p (drop (i * 4) cs) 4 ∙ drop-drop 4 (i * 4) cs ∙ ap (λ (n : ℕ). drop n cs) (next i) in
    let more : numbers (take (i + 1) rs) ≡ p ++ four r = ap (λ (n : ℕ). numbers (take n rs)) (add-one i) ∙ ap numbers (take-suc rs i d h) ∙ numbers_more (take i rs) r in
    put_is (p ++ drop (i * 4) cs) i r
    ∙ sets-eq (four r) (p ++ drop (i * 4) cs) (i * 4) room
    ∙ (λ j. left j ++ four r ++ right j)
    ∙ ap (λ xs. xs ++ drop ((i + 1) * 4) cs) (sym more)
  where
    next : (k : ℕ) → k * 4 + 4 ≡ (k + 1) * 4
    next k = omega arith

pub write_more : (cs : List ℕ) (rs : List Report) {ds ds' : List ℕ} {i : ℕ} {r : Report} (d : Report) → ds ≡ numbers (take i rs) ++ drop (i * 4) cs → ds' ≡ put ds i r → r ≡ get_or rs i d
    → i < length rs → i * 4 + 4 ≤ length cs → ds' ≡ numbers (take (i + 1) rs) ++ drop ((i + 1) * 4) cs
write_more cs rs {i = i} d e p at h l = p ∙ (λ j. put (e j) i (at j)) ∙ write_at cs rs i d h l
