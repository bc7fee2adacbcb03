-- A line number by number, as it is read: its numbers so far, and what they ask for. Assumes nothing.
use Prim.Native.Nat.{ℕ, ◌+◌, ◌≤◌, ◌<◌}
use mathlib.Core.Path.{◌≡◌, refl, sym, ap, ◌∙◌, subst}
use mathlib.Core.Bool.{Bool, true, false}
use mathlib.Core.Option.{Option, none, some}
use mathlib.Core.List.{List, [], ◌∷◌, ◌++◌, append_assoc}
use native.Mathlib.Numerals.{add-one}
use native.Mathlib.Omega.{arith}
use lib.ListN.{length, set, take, drop, length-append, length-set, drop_of_length-le}
use lib.Seq.{take-suc-set, length-take-le}
use Rattle.answers.specs.declared.Settings.{Settings}
use Rattle.model.specs.Line.{numbers_in, settings_of, read_line_by, default_depth, read_line, after_line}
use Rattle.model.proofs.Cut.{asks_of}
use Rattle.line.specs.declared.Word.{Word}
use Rattle.line.specs.declared.Reading.{Reading}
use Rattle.line.specs.Reading.{joined, after, numbers_of, Beyond, NoNumbers, IsWord, TooMany, Scanned, Malformed, Asks}
use Rattle.line.proofs.Words.{none_left}

-- a number done, then the others
after_one : (ns : List ℕ) (v : ℕ) (o : Option (List ℕ)) → after ns (joined v o) ≡ after (ns ++ v ∷ []) o
after_one ns v none = refl
after_one ns v (some ms) = ap some (sym (append_assoc ns (v ∷ []) ms))

-- no numbers, or an eighth
none_beyond : {o : Option (List ℕ)} → o ≡ none → Beyond o
none_beyond e ns f = let z : ◌≡◌ {A = ℕ} 0 1 = cc in absurd (omega arith)

eighth_beyond : (ns : List ℕ) → length ns ≡ 7 → (v : ℕ) (o : Option (List ℕ)) → Beyond (after ns (joined v o))
eighth_beyond ns h v none = none_beyond refl
eighth_beyond ns h v (some ms) = λ all e. let same : ns ++ v ∷ ms ≡ all = cc in omega (arith, ap length same, length-append ns (v ∷ ms))

-- one number more
pub numbers_push : (r : Reading) (value : ℕ) → r.count < length r.numbers → take (r.count + 1) (set r.numbers r.count value) ≡ numbers_of r ++ value ∷ []
numbers_push r value h = ap (λ k. take k (set r.numbers r.count value)) (add-one r.count) ∙ take-suc-set r.numbers r.count value h

-- the line from a place on, read up to i: its numbers are these and those of the bytes left, and what stands after it
pub record Scanning (input : List ℕ) (from : ℕ) (ns : List ℕ) (i : ℕ) : Type 0 where
  pub past : from ≤ i
  pub most : i ≤ length input
  pub same : after ns (numbers_in 0 0 (drop i input)) ≡ numbers_in 0 0 (drop from input)
  pub rest : after_line (drop i input) ≡ after_line (drop from input)

pub scanning : (input : List ℕ) (from : ℕ) → from ≤ length input → Scanning input from [] from
scanning input from h = record { past = omega arith; most = h; same = by (numbers_in 0 0 (drop from input)); rest = refl }
  where
    by : (o : Option (List ℕ)) → after [] o ≡ o
    by none = refl
    by (some ns) = refl

-- the LF is never there
pub scanned_none : (from : ℕ) {input ns : List ℕ} {i : ℕ} → Scanning input from ns i → length input ≤ i → numbers_in 0 0 (drop from input) ≡ none
scanned_none from {input} {ns} g h = sym g.same ∙ ap (λ l. after ns (numbers_in 0 0 l)) (drop_of_length-le input h) ∙ ap (after ns) (none_left 0 0)

pub scanned_bad : (from : ℕ) {input ns : List ℕ} {i : ℕ} → Scanning input from ns i → NoNumbers input i → numbers_in 0 0 (drop from input) ≡ none
scanned_bad from {ns = ns} g e = sym g.same ∙ ap (after ns) e

module _ (from : ℕ) {input ns : List ℕ} {i : ℕ} {w : Word} (g : Scanning input from ns i) (W : IsWord input i w) where
  pub scanned_last : w.last ≡ true → (numbers_in 0 0 (drop from input) ≡ some (ns ++ w.value ∷ [])) × (drop w.next input ≡ after_line (drop from input))
  scanned_last l = let z = W.last l in (sym g.same ∙ ap (after ns) z.0, sym z.1 ∙ g.rest)

  pub scanning_more : w.last ≡ false → Scanning input from (ns ++ w.value ∷ []) w.next
  scanning_more l =
      let z = W.more l in
      record {
        past = omega (arith, g.past, W.on.0);
        most = W.on.1;
        same = sym (after_one ns w.value (numbers_in 0 0 (drop w.next input))) ∙ ap (after ns) (sym z.0) ∙ g.same;
        rest = sym z.1 ∙ g.rest;
      }

  -- there is no eighth number
  scanned_eighth : length ns ≡ 7 → Beyond (numbers_in 0 0 (drop from input))
  scanned_eighth h = by w.last refl
    where
      by : (b : Bool) → w.last ≡ b → Beyond (numbers_in 0 0 (drop from input))
      by true l = subst Beyond (sym (scanned_last l).0) (eighth_beyond ns h w.value (some []))
      by false l = subst Beyond (ap (after ns) (sym (W.more l).0) ∙ g.same) (eighth_beyond ns h w.value (numbers_in 0 0 (drop w.next input)))

-- while the line at the front is read: its numbers so far, seven at most
pub record Goes (input : List ℕ) (r : Reading) : Type 0 where
  pub room : length r.numbers ≡ 7
  pub few : r.count ≤ 7
  pub scanning : Scanning input 0 (numbers_of r) r.end

pub goes_first : (input : List ℕ) (r : Reading) → length r.numbers ≡ 7 → r.count ≡ 0 → r.end ≡ 0 → Goes input r
goes_first input r h c e = record { room = h; few = omega (arith, c); scanning = rw (c, e) (scanning input 0 (omega arith)) }

module _ {input : List ℕ} {r : Reading} (g : Goes input r) where
  -- it ends without an LF, or is of another form
  pub unended : length input ≤ r.end → TooMany input
  unended h = none_beyond (scanned_none 0 g.scanning h)

  pub malformed_word : NoNumbers input r.end → TooMany input
  malformed_word e = none_beyond (scanned_bad 0 g.scanning e)

  module _ {w : Word} (W : IsWord input r.end w) where
    pub eighth : r.count ≡ 7 → TooMany input
    eighth e = scanned_eighth 0 g.scanning W (length-take-le r.count r.numbers (omega (arith, g.room)) ∙ e)

    -- one number more, the last or one with others after it
    module _ (f : r.count ≡ 7 → ⊥) where
      pub pushed : Reading
      pushed = record { numbers = set r.numbers r.count w.value; count = r.count + 1; end = w.next }

      fits : r.count < length r.numbers
      fits = omega (arith, g.room, g.few)

      pub scanned : w.last ≡ true → Scanned input pushed
      unfolding pushed
      scanned l =
          let z = scanned_last 0 g.scanning W l in
          record {
            room = length-set r.numbers r.count w.value ∙ g.room;
            few = omega (arith, g.room, fits);
            numbers = z.0 ∙ ap some (sym (numbers_push r w.value fits));
            text = z.1;
            within = W.on.1;
          }

      pub goes_on : w.last ≡ false → Goes input pushed
      unfolding pushed
      goes_on l = record {
        room = length-set r.numbers r.count w.value ∙ g.room;
        few = omega (arith, g.room, fits);
        scanning = subst (λ (ns : List ℕ). Scanning input 0 ns w.next) (sym (numbers_push r w.value fits)) (scanning_more 0 g.scanning W l);
      }

-- what a line's numbers say; more than seven ask for nothing
pub too_many : (input : List ℕ) → TooMany input → Malformed input
unfolding read_line_by
too_many input b = by (numbers_in 0 0 input) b
  where
    by : (o : Option (List ℕ)) → Beyond o → asks_of default_depth o ≡ none
    by none b = refl
    by (some ns) b = many ns (b ns refl)
      where
        many : (ns : List ℕ) → 7 < length ns → settings_of ns ≡ none
        many (s ∷ g ∷ d ∷ p ∷ q ∷ t ∷ k ∷ x ∷ xs) h = refl
        many [] h = refl
        many (s ∷ []) h = refl
        many (s ∷ g ∷ []) h = absurd (omega arith)
        many (s ∷ g ∷ d ∷ []) h = absurd (omega arith)
        many (s ∷ g ∷ d ∷ p ∷ []) h = refl
        many (s ∷ g ∷ d ∷ p ∷ q ∷ []) h = absurd (omega arith)
        many (s ∷ g ∷ d ∷ p ∷ q ∷ t ∷ []) h = absurd (omega arith)
        many (s ∷ g ∷ d ∷ p ∷ q ∷ t ∷ k ∷ []) h = absurd (omega arith)

-- what the line that is read asks for
module _ {input : List ℕ} {r : Reading} (S : Scanned input r) where
  reads : read_line input ≡ settings_of (numbers_of r)
  unfolding read_line_by
  reads = ap (asks_of default_depth) S.numbers

  pub asks_nothing : none ≡ settings_of (numbers_of r) → Malformed input
  asks_nothing e = reads ∙ sym e

  pub asks : {s : Settings} → some s ≡ settings_of (numbers_of r) → Asks input (record { settings = s; text = r.end })
  asks e = record { settings = reads ∙ sym e; text = S.text; within = S.within }
