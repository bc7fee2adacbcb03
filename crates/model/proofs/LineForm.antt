-- The form of a line: bytes without an LF and one at their end; its numbers, whatever text stands after it; and when it is malformed. Assumes nothing.
use Prim.Native.Nat.{ℕ, zero, suc, ◌+◌, ◌-◌, ◌*◌, ◌≤◌}
use mathlib.Core.Path.{◌≡◌, refl, sym, ap, ◌∙◌}
use mathlib.Core.Bool.{Bool, true, false, ◌&&◌}
use mathlib.Core.Option.{Option, none, some}
use mathlib.Core.List.{List, [], ◌∷◌, ◌++◌, append_assoc, append-nil}
use native.Mathlib.Omega.{arith}
use borrow.Author.Tests.{ne_eqb, eqb-true, eqb-false}
use lib.Dec.{leb, eqb}
use lib.ListN.{length, take}
use Rattle.answers.specs.declared.Place.TheVariants as P
use Rattle.answers.specs.declared.Settings.{Settings}
use Rattle.model.specs.Basics.{choose, refuse_at}
use Rattle.model.specs.FloorText.{LF, is_digit}
use Rattle.model.specs.Line.{numbers_in, after_line, settings_of, read_line_by, default_depth, read_line}
use Rattle.model.specs.KeepDepth.{is_asked, given_of, numbers_first, numbers_given, line_form, Unended, longest_line}
use Rattle.model.proofs.Accepted.{Judges, unless_judges, le_tells}
use Rattle.model.proofs.Cut.{joined, asks_of, line-says}

-- bytes without an LF, one less and one more of them
pub unended_tail : (b : ℕ) (bs : List ℕ) → Unended (b ∷ bs) → Unended bs
unended_tail b bs u k h = u (suc k) (omega arith)

pub unended_more : (b : ℕ) (bs : List ℕ) → (b ≡ LF → ⊥) → Unended bs → Unended (b ∷ bs)
unended_more b bs f u zero h e = f e
unended_more b bs f u (suc k) h e = u k (omega arith) e

pub unended_append : (xs ys : List ℕ) → Unended xs → Unended ys → Unended (xs ++ ys)
unended_append [] ys u w = w
unended_append (x ∷ xs) ys u w = unended_more x (xs ++ ys) (u 0 (omega arith)) (unended_append xs ys (unended_tail x xs u) w)

-- and so the byte at its front is none
pub head_is : (b : ℕ) (bs : List ℕ) → Unended (b ∷ bs) → eqb b LF ≡ false
head_is b bs u = ne_eqb b LF (u 0 (omega arith))

-- ---- the numbers of a line, and what stands after it

-- A line's front says the same whatever stands at the end: where two ends' numbers are alike under F, which keeps none and a number in front, so are those of two lines with one front.
module _ (F : Option (List ℕ) → Option (List ℕ)) (keeps : F none ≡ none) (joins : (v : ℕ) (o : Option (List ℕ)) → F (joined v o) ≡ joined v (F o)) (end end' : List ℕ)
    (ends : (d v : ℕ) → numbers_in d v end ≡ F (numbers_in d v end')) where
  pub numbers_by_end : (body : List ℕ) (d v : ℕ) → Unended body → numbers_in d v (body ++ end) ≡ F (numbers_in d v (body ++ end'))
  unfolding numbers_in
  numbers_by_end [] d v u = ends d v
  numbers_by_end (b ∷ bs) d v u =
      let t = unended_tail b bs u in
      by (is_digit b && leb d 6) (eqb b 32 && leb 1 d) refl refl (numbers_by_end bs (suc d) (10 * v + (b - 48)) t) (numbers_by_end bs 0 0 t)
    where
      by : (digit space : Bool) → (is_digit b && leb d 6) ≡ digit → (eqb b 32 && leb 1 d) ≡ space
          → numbers_in (suc d) (10 * v + (b - 48)) (bs ++ end) ≡ F (numbers_in (suc d) (10 * v + (b - 48)) (bs ++ end')) → numbers_in 0 0 (bs ++ end) ≡ F (numbers_in 0 0 (bs ++ end'))
          → numbers_in d v (b ∷ (bs ++ end)) ≡ F (numbers_in d v (b ∷ (bs ++ end')))
      by true space f g on next = rw (head_is b bs u, f, numbers_in) on
      by false true f g on next = rw (head_is b bs u, f, g, numbers_in) (ap (joined v) next ∙ sym (joins v (numbers_in 0 0 (bs ++ end'))))
      by false false f g on next = rw (head_is b bs u, f, g, numbers_in) (sym keeps)

-- the numbers of a line are the same whatever text stands after it
numbers_of_line : (body text : List ℕ) → Unended body → numbers_in 0 0 (body ++ LF ∷ text) ≡ numbers_in 0 0 (body ++ LF ∷ [])
unfolding numbers_in
numbers_of_line body text u = numbers_by_end (λ o. o) refl (λ v o. refl) (LF ∷ text) (LF ∷ []) (λ d v. refl) body 0 0 u

-- what stands after a line is the text after its LF
pub after_line_lem : (body text : List ℕ) → Unended body → after_line (body ++ LF ∷ text) ≡ text
unfolding after_line
after_line_lem [] text u = refl
after_line_lem (b ∷ bs) text u = rw (head_is b bs u, after_line) (after_line_lem bs text (unended_tail b bs u))

-- ---- a line: bytes without an LF, and one at its end

pub record Ended (line : List ℕ) : Type 0 where
  pub body : List ℕ
  pub is : line ≡ body ++ LF ∷ []
  pub unended : Unended body

pub ended : (body : List ℕ) → Unended body → Ended (body ++ LF ∷ [])
ended body u = record { body = body; is = refl; unended = u }

module _ (line : List ℕ) (l : Ended line) (text : List ℕ) where
  then_text : line ++ text ≡ l.body ++ LF ∷ text
  then_text = ap (λ (x : List ℕ). x ++ text) l.is ∙ append_assoc l.body (LF ∷ []) text

  -- what is read of it, and what is left, where a text stands after it
  pub line_reads : (default : ℕ) → read_line_by default (line ++ text) ≡ asks_of default (numbers_in 0 0 line)
  unfolding read_line_by
  line_reads default =
      ap (λ (x : List ℕ). asks_of default (numbers_in 0 0 x)) then_text
      ∙ ap (asks_of default) (numbers_of_line l.body text l.unended)
      ∙ ap (λ (x : List ℕ). asks_of default (numbers_in 0 0 x)) (sym l.is)

  -- so many numbers are given, whatever text stands after it
  pub line_first : numbers_first (line ++ text) ≡ numbers_first line
  unfolding numbers_first
  line_first = ap (λ (x : List ℕ). given_of (numbers_in 0 0 x)) then_text ∙ ap given_of (numbers_of_line l.body text l.unended) ∙ ap (λ (x : List ℕ). given_of (numbers_in 0 0 x)) (sym l.is)

  pub line-leaves : after_line (line ++ text) ≡ text
  line-leaves = ap after_line then_text ∙ after_line_lem l.body text l.unended

module _ (line : List ℕ) (l : Ended line) where
  nothing_left : after_line line ≡ []
  nothing_left = ap after_line l.is ∙ after_line_lem l.body [] l.unended

  pub given_first : numbers_given line ≡ numbers_first line
  unfolding numbers_given
  given_first = rw (nothing_left, numbers_given)

  pub given_is : (o : Option (List ℕ)) → numbers_in 0 0 line ≡ o → numbers_given line ≡ given_of o
  unfolding numbers_first
  given_is o e = given_first ∙ ap given_of e

-- ---- what is malformed

-- 3
pub form_judges : (line : List ℕ) → Judges (line_form line) 3 (1 ≤ numbers_given line)
unfolding line_form
form_judges line = unless_judges _ 3 (le_tells 1 (numbers_given line))

-- none are given where the line asks for nothing, or bytes are left after it
module _ (line : List ℕ) where
  pub first_none : read_line line ≡ none → numbers_first line ≡ 0
  unfolding read_line_by numbers_first
  first_none e = by (numbers_in 0 0 line) refl
    where
      off : (o : Option Settings) (n : ℕ) → o ≡ none → choose (is_asked o) n 0 ≡ 0
      off none n f = refl
      off (some s) n f = let z : ◌≡◌ {A = ℕ} 0 1 = cc in absurd (omega arith)

      by : (o : Option (List ℕ)) → numbers_in 0 0 line ≡ o → numbers_first line ≡ 0
      by none f = rw (f, numbers_first)
      by (some ns) f = rw (f, numbers_first) (off (settings_of ns) (length ns) (sym (ap (asks_of default_depth) f) ∙ e))

  pub given_left : 1 ≤ length (after_line line) → numbers_given line ≡ 0
  unfolding numbers_given
  given_left h = let z : eqb (length (after_line line)) 0 ≡ false = ne_eqb (length (after_line line)) 0 (λ e. omega arith) in rw (z, numbers_given)

  pub given_none : numbers_first line ≡ 0 → numbers_given line ≡ 0
  unfolding numbers_given
  given_none e = by (eqb (length (after_line line)) 0) refl
    where
      by : (b : Bool) → eqb (length (after_line line)) 0 ≡ b → numbers_given line ≡ 0
      by true f = rw (f, numbers_given) e
      by false f = rw (f, numbers_given)

malformed : (line : List ℕ) → read_line line ≡ none → line_form line ≡ refuse_at 3 P.Nowhere
malformed line e = (form_judges line).refused (λ h. omega (arith, given_none line (first_none line e)))

-- without an LF there are no numbers
numbers_unended : (bs : List ℕ) → Unended bs → numbers_in 0 0 bs ≡ none
unfolding numbers_in
numbers_unended bs u = ap (numbers_in 0 0) (sym (append-nil bs)) ∙ numbers_by_end (λ o. none) refl (λ v o. refl) [] [] (λ d v. refl) bs 0 0 u

reads_unended : (bs : List ℕ) → Unended bs → read_line bs ≡ none
unfolding read_line_by
reads_unended bs u = ap (asks_of default_depth) (numbers_unended bs u)

pub first_unended : (bs : List ℕ) → Unended bs → numbers_first bs ≡ 0
first_unended bs u = first_none bs (reads_unended bs u)

pub unended_is_malformed : (line : List ℕ) → Unended line → line_form line ≡ refuse_at 3 P.Nowhere
unended_is_malformed line u = malformed line (reads_unended line u)

-- as many bytes as the longest line has, without an LF
pub long_is_malformed : (line : List ℕ) → Unended (take longest_line line) → line_form line ≡ refuse_at 3 P.Nowhere
long_is_malformed line u = malformed line (sym (line-says line 0 longest_line (omega arith)) ∙ reads_unended (take longest_line line) u)

-- bytes without an LF, or up to the first
pub data Parted (bytes : List ℕ) : Type 0 where
  no_end : Unended bytes → Parted bytes
  at_end_lem : (body rest : List ℕ) → Unended body → bytes ≡ body ++ LF ∷ rest → Parted bytes

pub parted : (bytes : List ℕ) → Parted bytes
parted [] = no_end (λ k h e. omega arith)
parted (b ∷ bs) = by (eqb b LF) refl (parted bs)
  where
    by : (lf : Bool) → eqb b LF ≡ lf → Parted bs → Parted (b ∷ bs)
    by true e p = at_end_lem [] bs (λ k h f. omega arith) (ap (λ x. x ∷ bs) (eqb-true b LF e))
    by false e (no_end u) = no_end (unended_more b bs (eqb-false b LF e) u)
    by false e (at_end_lem body rest u f) = at_end_lem (b ∷ body) rest (unended_more b body (eqb-false b LF e) u) (ap (λ xs. b ∷ xs) f)

-- a line that is of the form ends with its LF, and has none before
pub formed-ended : (line : List ℕ) → 1 ≤ numbers_given line → Ended line
formed-ended line h = by (parted line)
  where
    by : Parted line → Ended line
    by (no_end u) = absurd (omega (arith, given_none line (first_unended line u)))
    by (at_end_lem body [] u f) = record { body = body; is = f; unended = u }
    by (at_end_lem body (x ∷ xs) u f) = let left : after_line line ≡ x ∷ xs = ap after_line f ∙ after_line_lem body (x ∷ xs) u in absurd (omega (arith, given_left line (omega (arith, ap length left))))
