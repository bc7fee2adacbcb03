-- Document 02 on lists of lines: each line with its depth, one for one and in order, up to the first that is malformed; and what is told of a part of a list, whatever follows it.
-- A text is its first line and the rest. Assumes nothing.
use Prim.Native.Nat.{ℕ, suc, ◌+◌, ◌≤◌}
use mathlib.Core.Path.{◌≡◌, refl, sym, ap, ◌∙◌, subst}
use mathlib.Core.List.{List, [], ◌∷◌, ◌++◌, map, append_assoc}
use native.Mathlib.Omega.{arith}
use native.Mathlib.Nat.{add-zero}
use lib.ListN.{length, take, length-append, length-take}
use lib.Seq.{take-append-le, get_or-take}
use Rattle.answers.specs.declared.Place.TheVariants as P
use Rattle.answers.specs.Outcomes.{Verdict}
use Rattle.std.specs.Prelude.{Ok, Err}
use Rattle.model.specs.Basics.{refuse_at}
use Rattle.model.specs.FloorText.{LF}
use Rattle.model.specs.KeepDepth.{line_form, with_old_depth, in_front, lines_of, Unended, Copied, ahead, copy_lines, longest_line, keep_depth}
use Rattle.model.proofs.Accepted.{not_refused}
use Rattle.model.proofs.LineForm.{unended_tail, unended_append, head_is, Ended, Parted, no_end, at_end_lem, parted, form_judges, formed-ended, unended_is_malformed, long_is_malformed}
use Rattle.model.proofs.Converted.{converted_ended}

-- ---- the lines of a text

-- up to the first LF, and the rest
pub lines_first : (body rest : List ℕ) → Unended body → lines_of (body ++ LF ∷ rest) ≡ (body ++ LF ∷ []) ∷ lines_of rest
unfolding lines_of
lines_first [] rest u = refl
lines_first (b ∷ bs) rest u = rw (head_is b bs u, lines_of) (ap (in_front b) (lines_first bs rest (unended_tail b bs u)))

lines-ended : (line rest : List ℕ) → Ended line → lines_of (line ++ rest) ≡ line ∷ lines_of rest
lines-ended line rest l =
    ap (λ (x : List ℕ). lines_of (x ++ rest)) l.is
    ∙ ap lines_of (append_assoc l.body (LF ∷ []) rest)
    ∙ lines_first l.body rest l.unended
    ∙ ap (λ (x : List ℕ). x ∷ lines_of rest) (sym l.is)

-- all of it, where there is no LF
lines_last : (b : ℕ) (bs : List ℕ) → Unended (b ∷ bs) → lines_of (b ∷ bs) ≡ (b ∷ bs) ∷ []
unfolding lines_of
lines_last b [] u = rw (head_is b [] u, lines_of)
lines_last b (c ∷ cs) u = rw (head_is b (c ∷ cs) u, lines_of) (ap (in_front b) (lines_last c cs (unended_tail b (c ∷ cs) u)))

-- ---- one line more, or the end

-- the first malformed line: nothing from it on, and its number
abbrev pub stopped : (line : ℕ) → Copied
stopped line = record { written = []; verdict = refuse_at 3 (P.Line line) }

copy_stops : (line : ℕ) (l : List ℕ) (ls : List (List ℕ)) → line_form l ≡ refuse_at 3 P.Nowhere → copy_lines line (l ∷ ls) ≡ stopped line
unfolding copy_lines
copy_stops line l ls e = rw (e, copy_lines)

copy_goes : (line : ℕ) (l : List ℕ) (ls : List (List ℕ)) → line_form l ≡ Ok tt → copy_lines line (l ∷ ls) ≡ ahead (with_old_depth l) (copy_lines (suc line) ls)
unfolding copy_lines
copy_goes line l ls e = rw (e, copy_lines)

-- what is told of a text that begins with a line, and of one that ends without an LF
module _ (line : ℕ) (l rest : List ℕ) (k : Ended l) where
  pub line-goes : line_form l ≡ Ok tt → copy_lines line (lines_of (l ++ rest)) ≡ ahead (with_old_depth l) (copy_lines (suc line) (lines_of rest))
  line-goes e = ap (copy_lines line) (lines-ended l rest k) ∙ copy_goes line l (lines_of rest) e

  pub line_stops : line_form l ≡ refuse_at 3 P.Nowhere → copy_lines line (lines_of (l ++ rest)) ≡ stopped line
  line_stops e = ap (copy_lines line) (lines-ended l rest k) ∙ copy_stops line l (lines_of rest) e

pub none_left : (line : ℕ) → copy_lines line (lines_of []) ≡ record { written = []; verdict = Ok tt }
unfolding copy_lines lines_of
none_left line = refl

pub unended_stops : (line : ℕ) (bytes : List ℕ) → 1 ≤ length bytes → Unended bytes → copy_lines line (lines_of bytes) ≡ stopped line
unended_stops line [] h u = absurd (omega arith)
unended_stops line (b ∷ bs) h u = ap (copy_lines line) (lines_last b bs u) ∙ copy_stops line (b ∷ bs) [] (unended_is_malformed (b ∷ bs) u)

-- as many bytes as the longest line has, without an LF: whatever follows
unended_take : (n : ℕ) (xs : List ℕ) → Unended xs → Unended (take n xs)
unended_take n xs u k h e = let l = length-take n xs in u k (omega arith) (sym (get_or-take n xs k 0 (omega arith)) ∙ e)

pub long_stops : (line : ℕ) (bytes rest : List ℕ) → longest_line ≤ length bytes → Unended bytes → copy_lines line (lines_of (bytes ++ rest)) ≡ stopped line
long_stops line bytes rest h u = by (parted rest)
  where
    by : Parted rest → copy_lines line (lines_of (bytes ++ rest)) ≡ stopped line
    by (no_end w) = unended_stops line (bytes ++ rest) (omega (arith, length-append bytes rest)) (unended_append bytes rest u w)
    by (at_end_lem body more w e) =
        let first : List ℕ = (bytes ++ body) ++ LF ∷ [] in
        let front : take longest_line first ≡ take longest_line bytes =
        ap (take longest_line) (append_assoc bytes body (LF ∷ [])) ∙ take-append-le longest_line bytes (body ++ LF ∷ []) h in
        ap (λ (x : List ℕ). copy_lines line (lines_of (bytes ++ x))) e
        ∙ ap (λ (x : List ℕ). copy_lines line (lines_of x)) (sym (append_assoc bytes body (LF ∷ more)))
        ∙ ap (copy_lines line) (lines_first (bytes ++ body) more (unended_append bytes body u w))
        ∙ copy_stops line first (lines_of more) (long_is_malformed first (subst Unended (sym front) (unended_take longest_line bytes u)))

-- ---- the whole list

-- every line is of the form
abbrev pub EachFormed : List (List ℕ) → Type 0
EachFormed [] = Unit {0}
EachFormed (l ∷ ls) = (line_form l ≡ Ok tt) × EachFormed ls

-- Lines that were copied, the first of them being the line of that number: what is written has as many lines, each the stored one with its depth.
pub data Copies (first : ℕ) (ls : List (List ℕ)) (c : Copied) : Type 0 where
  -- all of them, or
  to_the_end : EachFormed ls → c.verdict ≡ Ok tt → lines_of c.written ≡ map with_old_depth ls → Copies first ls c
  -- those before the first malformed one, whose number is told
  up_to : (before : List (List ℕ)) (l : List ℕ) (after : List (List ℕ)) → ls ≡ before ++ l ∷ after → EachFormed before → line_form l ≡ refuse_at 3 P.Nowhere
      → c.verdict ≡ refuse_at 3 (P.Line (first + length before)) → lines_of c.written ≡ map with_old_depth before → Copies first ls c

-- a line of the form is copied: one line more is written
lines_more : (first : ℕ) (l : List ℕ) (ls xs : List (List ℕ)) → line_form l ≡ Ok tt → lines_of (copy_lines (suc first) ls).written ≡ xs
    → lines_of (copy_lines first (l ∷ ls)).written ≡ with_old_depth l ∷ xs
lines_more first l ls xs e w =
    ap (λ (c : Copied). lines_of c.written) (copy_goes first l ls e)
    ∙ lines-ended (with_old_depth l) (copy_lines (suc first) ls).written (converted_ended l (formed-ended l ((form_judges l).gives e)))
    ∙ ap (λ (ys : List (List ℕ)). with_old_depth l ∷ ys) w

copies : (first : ℕ) (ls : List (List ℕ)) → Copies first ls (copy_lines first ls)
unfolding copy_lines lines_of
copies first [] = to_the_end tt refl refl
copies first (l ∷ ls) = by (line_form l) refl (copies (suc first) ls)
  where
    told : line_form l ≡ Ok tt → (copy_lines first (l ∷ ls)).verdict ≡ (copy_lines (suc first) ls).verdict
    told e = ap (λ (c : Copied). c.verdict) (copy_goes first l ls e)

    by : (v : Verdict) → line_form l ≡ v → Copies (suc first) ls (copy_lines (suc first) ls) → Copies first (l ∷ ls) (copy_lines first (l ∷ ls))
    by (Err r) e c =
        let m : line_form l ≡ refuse_at 3 P.Nowhere = (form_judges l).refused (λ h. not_refused ((form_judges l).done h) e) in
        let s = copy_stops first l ls m in
        up_to [] l ls refl tt m (ap (λ (c : Copied). c.verdict) s ∙ ap (λ (k : ℕ). refuse_at 3 (P.Line k)) (sym (add-zero first))) (ap (λ (c : Copied). lines_of c.written) s)
    by (Ok _) e (to_the_end f v w) = to_the_end (e, f) (told e ∙ v) (lines_more first l ls (map with_old_depth ls) e w)
    by (Ok _) e (up_to before b after s f m v w) =
        let z : suc first + length before ≡ first + suc (length before) = omega arith in
        up_to (l ∷ before) b after (ap (λ x. l ∷ x) s) (e, f) m (told e ∙ v ∙ ap (λ (k : ℕ). refuse_at 3 (P.Line k)) z) (lines_more first l ls (map with_old_depth before) e w)

-- "copies a list of lines and writes the old depth into those that leave it out"; "nothing is written from that line on"
pub keep_depth-copies : (input : List ℕ) → Copies 1 (lines_of input) (keep_depth input)
unfolding keep_depth
keep_depth-copies input = copies 1 (lines_of input)
