-- Document 02 on the default depth: "a converted line must print what it printed before. Lines that give a depth are copied byte for byte."
-- The numbers of a line do not hang on the text after it, and the old depth ahead of its LF is one number more; so the two ways ask for the same. Assumes nothing.
use Prim.Native.Nat.{ℕ, zero, suc, ◌-◌, ◌≤◌}
use mathlib.Core.Path.{◌≡◌, refl, sym, ap, ◌∙◌}
use mathlib.Core.Bool.{Bool, true, false}
use mathlib.Core.Option.{Option, none, some}
use mathlib.Core.List.{List, [], ◌∷◌, ◌++◌, append_assoc}
use native.Mathlib.Omega.{arith}
use borrow.Author.Tests.{ne_eqb}
use lib.Dec.{leb, eqb}
use lib.ListN.{length, take, length-append}
use lib.Seq.{take_at}
use Rattle.answers.specs.declared.Place.TheVariants as P
use Rattle.answers.specs.declared.Settings.{Settings}
use Rattle.std.specs.Prelude.{Ok}
use Rattle.model.specs.Basics.{choose}
use Rattle.model.specs.FloorText.{LF}
use Rattle.model.specs.Line.{numbers_in, after_line, settings_by, settings_of, read_line_by, default_depth, decimal_in, field, refusal_line, judge_aisle, printed, aisle_by, aisle}
use Rattle.model.specs.KeepDepth.{old_depth, is_asked, given_of, numbers_first, numbers_given, line_form, with_old_depth, Unended}
use Rattle.model.proofs.Cut.{joined, asks_of}
use Rattle.model.proofs.LineForm.{numbers_by_end, unended_append, Ended, ended, line_reads, line-leaves, given_is, form_judges, formed-ended}

-- ---- one number more

abbrev more : ℕ → Option (List ℕ) → Option (List ℕ)
more n none = none
more n (some ns) = some (ns ++ n ∷ [])

more_joined : (n v : ℕ) (o : Option (List ℕ)) → more n (joined v o) ≡ joined v (more n o)
more_joined n v none = refl
more_joined n v (some ns) = refl

-- the old depth ahead of the LF is one number more
numbers_with_depth : (body : List ℕ) → Unended body → numbers_in 0 0 (body ++ (field old_depth ++ (LF ∷ []))) ≡ more old_depth (numbers_in 0 0 (body ++ LF ∷ []))
unfolding numbers_in decimal_in
numbers_with_depth body u = numbers_by_end (more old_depth) refl (more_joined old_depth) (field old_depth ++ (LF ∷ [])) (LF ∷ []) (λ d v. by d v (leb 1 d) refl) body 0 0 u
  where
    by : (d v : ℕ) (one : Bool) → leb 1 d ≡ one → numbers_in d v (field old_depth ++ (LF ∷ [])) ≡ more old_depth (numbers_in d v (LF ∷ []))
    by d v true e = rw (e, numbers_in)
    by d v false e = rw (e, numbers_in)

-- ---- a depth that is given

-- three or more are never two
not_two : (ns : List ℕ) → 3 ≤ length ns → eqb (given_of (some ns)) 2 ≡ false
not_two ns h = by (is_asked (settings_of ns))
  where
    by : (b : Bool) → eqb (choose b (length ns) 0) 2 ≡ false
    by true = ne_eqb (length ns) 2 (λ e. omega arith)
    by false = refl

-- "Lines that give a depth are copied byte for byte."
pub given_depth_is_copied : (line ns : List ℕ) → numbers_in 0 0 line ≡ some ns → 3 ≤ length ns → with_old_depth line ≡ line
unfolding with_old_depth numbers_given numbers_first
given_depth_is_copied line ns e h = by (eqb (length (after_line line)) 0) refl
  where
    by : (b : Bool) → eqb (length (after_line line)) 0 ≡ b → with_old_depth line ≡ line
    by true f = rw (e, f, with_old_depth, numbers_given, numbers_first, not_two ns h)
    by false f = rw (f, with_old_depth, numbers_given)

-- the settings are the same by any default where a depth is given
settings_given : (a b s g d : ℕ) (ns : List ℕ) → settings_by a (s ∷ g ∷ d ∷ ns) ≡ settings_by b (s ∷ g ∷ d ∷ ns)
settings_given a b s g d [] = refl
settings_given a b s g d (p ∷ []) = refl
settings_given a b s g d (p ∷ q ∷ []) = refl
settings_given a b s g d (p ∷ q ∷ t ∷ []) = refl
settings_given a b s g d (p ∷ q ∷ t ∷ k ∷ []) = refl
settings_given a b s g d (p ∷ q ∷ t ∷ k ∷ x ∷ xs) = refl

-- ---- a line and what it becomes

depth_unended : Unended (field old_depth)
unfolding decimal_in
depth_unended zero h e = omega arith
depth_unended (suc zero) h e = omega arith
depth_unended (suc (suc k)) h e = omega arith

module _ (line : List ℕ) (l : Ended line) where
  -- all of it but its LF
  body_is : take (length line - 1) line ≡ l.body
  body_is =
      let n : length line - 1 ≡ length l.body = omega (arith, ap length l.is, length-append l.body (LF ∷ [])) in
      ap (take (length line - 1)) l.is ∙ take_at l.body (LF ∷ []) (length line - 1) (sym n)

  -- the old depth where two numbers are given, and the line itself elsewhere
  becomes_three : (s g : ℕ) → numbers_in 0 0 line ≡ some (s ∷ g ∷ []) → with_old_depth line ≡ (l.body ++ field old_depth) ++ LF ∷ []
  unfolding with_old_depth
  becomes_three s g e = rw (given_is line l (some (s ∷ g ∷ [])) e, with_old_depth, body_is) (sym (append_assoc l.body (field old_depth) (LF ∷ [])))

  becomes_itself : (o : Option (List ℕ)) → numbers_in 0 0 line ≡ o → eqb (given_of o) 2 ≡ false → with_old_depth line ≡ line
  unfolding with_old_depth
  becomes_itself o e f = rw (given_is line l o e, with_old_depth, f)

  -- What it becomes is a line too, stays when it is converted again, and asks by any default for what the line asked for by the old one.
  record Becomes (new : List ℕ) : Type 0 where
    pub new_line : Ended new
    pub again : with_old_depth new ≡ new
    pub asks : (default : ℕ) → asks_of default (numbers_in 0 0 new) ≡ asks_of old_depth (numbers_in 0 0 line)

  itself : (o : Option (List ℕ)) → numbers_in 0 0 line ≡ o → eqb (given_of o) 2 ≡ false → ((default : ℕ) → asks_of default o ≡ asks_of old_depth o) → Becomes (with_old_depth line)
  itself o e f a = rw (becomes_itself o e f) (record { new_line = l; again = becomes_itself o e f; asks = λ default. ap (asks_of default) e ∙ a default ∙ ap (asks_of old_depth) (sym e) })

  becomes : Becomes (with_old_depth line)
  becomes = by (numbers_in 0 0 line) refl
    where
      by : (o : Option (List ℕ)) → numbers_in 0 0 line ≡ o → Becomes (with_old_depth line)
      by none e = itself none e refl (λ default. refl)
      by (some []) e = itself (some []) e refl (λ default. refl)
      by (some (s ∷ [])) e = itself (some (s ∷ [])) e refl (λ default. refl)
      by (some (s ∷ g ∷ [])) e =
          let numbers : numbers_in 0 0 ((l.body ++ field old_depth) ++ LF ∷ []) ≡ some (s ∷ g ∷ old_depth ∷ []) =
          ap (numbers_in 0 0) (append_assoc l.body (field old_depth) (LF ∷ [])) ∙ numbers_with_depth l.body l.unended ∙ ap (more old_depth) (ap (numbers_in 0 0) (sym l.is) ∙ e) in
          rw (becomes_three s g e) (record {
            new_line = ended (l.body ++ field old_depth) (unended_append l.body (field old_depth) l.unended depth_unended);
            again = given_depth_is_copied ((l.body ++ field old_depth) ++ LF ∷ []) (s ∷ g ∷ old_depth ∷ []) numbers (omega arith);
            asks = λ default. ap (asks_of default) numbers ∙ ap (asks_of old_depth) (sym e);
          })
      by (some (s ∷ g ∷ d ∷ ns)) e =
          itself (some (s ∷ g ∷ d ∷ ns)) e (not_two (s ∷ g ∷ d ∷ ns) (omega arith)) (λ default. settings_given default old_depth s g d ns)

-- two inputs that ask for the same, with the same text after their lines, print the same
prints_the_same : (a b : ℕ) (i j : List ℕ) → read_line_by a i ≡ read_line_by b j → after_line i ≡ after_line j → aisle_by a i ≡ aisle_by b j
unfolding aisle_by
prints_the_same a b i j e f = λ k. told_of (e k) (f k)
  where
    told_of : Option Settings → List ℕ → List ℕ
    told_of o text = elim o [ none ↦ refusal_line (record { number = 3; place = P.Nowhere }) | some s ↦ printed (judge_aisle s text) s text ]

module _ (line : List ℕ) (l : Ended line) where
  -- what a line becomes ends where the line does
  pub converted_ended : Ended (with_old_depth line)
  converted_ended = (becomes line l).new_line

  pub converted_again : with_old_depth (with_old_depth line) ≡ with_old_depth line
  converted_again = (becomes line l).again

  -- "a converted line must print what it printed before": for every line and every text after it
  pub converted_prints_the_same : (text : List ℕ) → aisle_by old_depth (line ++ text) ≡ aisle (with_old_depth line ++ text)
  converted_prints_the_same text =
      prints_the_same old_depth default_depth (line ++ text) (with_old_depth line ++ text)
      (line_reads line l text old_depth ∙ sym ((becomes line l).asks default_depth) ∙ sym (line_reads (with_old_depth line) converted_ended text default_depth))
      (line-leaves line l text ∙ sym (line-leaves (with_old_depth line) converted_ended text))

-- so a line that is converted prints what it printed before
pub formed_prints_the_same : (line : List ℕ) → line_form line ≡ Ok tt → (text : List ℕ) → aisle_by old_depth (line ++ text) ≡ aisle (with_old_depth line ++ text)
formed_prints_the_same line e = converted_prints_the_same line (formed-ended line ((form_judges line).gives e))
