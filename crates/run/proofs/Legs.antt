-- What the legs of a path come to up to each of its places, and that a decision's note keeps it.
-- A decision adds a cell to the path and the current cell, or leaves a first part of them, whose sums stand as they are.
use Prim.Native.Nat.{ℕ, zero, suc, ◌+◌, ◌≤◌, ◌<◌}
use mathlib.Core.Path.{◌≡◌, refl, sym, ap, subst, ◌∙◌}
use mathlib.Core.Bool.{Bool, true, false}
use mathlib.Core.List.{List, [], ◌∷◌, ◌++◌}
use native.Mathlib.Decide.{ℕ_discrete, dec_le}
use native.Mathlib.Omega.{arith}
use borrow.Author.Tests.{lt-ltb, le-ltb}
use lib.Dec.{ltb}
use lib.ListN.{length, get_or, set, take, length-set, length-append, length-take, get_or-append}
use lib.Seq.{take_all, take_at, take-append-le, take-take, get_or_at, get_or-take, get_or-set_same, get_or-set_other}
use Rattle.learning.specs.Path.{before, keep_unless, legs}
use Rattle.learning.specs.Trial.{Job, State, Step, forward, back_out, stay}
use Rattle.learning.proofs.Lent.{before_take, legs_snoc}
use Rattle.model.specs.Basics.{choose}
use Rattle.run.specs.Trials.{noted}

pub note_more : (along : List ℕ) (n m leg : ℕ) → n < m → noted along n m leg ≡ set along m (get_or along n 0 + leg)
note_more along n m leg h = ap (λ b. choose b (set along m (get_or along n 0 + leg)) along) (lt-ltb n m h)

pub note_none : (along : List ℕ) (n m leg : ℕ) → m ≤ n → noted along n m leg ≡ along
note_none along n m leg h = ap (λ b. choose b (set along m (get_or along n 0 + leg)) along) (le-ltb n m h)

pub noted-size : (along : List ℕ) (n m leg : ℕ) → length (noted along n m leg) ≡ length along
noted-size along n m leg = by (ltb n m)
  where
    by : (b : Bool) → length (choose b (set along m (get_or along n 0 + leg)) along) ≡ length along
    by true = length-set along m (get_or along n 0 + leg)
    by false = refl

-- a path cut at a cell of it, and that cell
before_met : (t : ℕ) (xs : List ℕ) → length (before t xs) < length xs → before t xs ++ t ∷ [] ≡ take (suc (length (before t xs))) xs
before_met t [] h = absurd (omega arith)
before_met t (x ∷ xs) h = by (ℕ_discrete x t) (before_met t xs) h
  where
    by : (d : Dec (x ≡ t)) → (length (before t xs) < length xs → before t xs ++ t ∷ [] ≡ take (suc (length (before t xs))) xs)
        → length (keep_unless d x (before t xs)) < length (x ∷ xs) → keep_unless d x (before t xs) ++ t ∷ [] ≡ take (suc (length (keep_unless d x (before t xs)))) (x ∷ xs)
    by (yes e) r l = ap (λ y. y ∷ []) (sym e)
    by (no e) r l = ap (λ ys. x ∷ ys) (r (omega arith))

-- What the legs from the first of these cells to each of them cost.
pub record Sums (leg : ℕ → ℕ → ℕ) (cells along : List ℕ) : Type 0 where
  pub upto : (k : ℕ) → k < length cells → get_or along k 0 ≡ legs leg (take k cells) (get_or cells k 0)

module _ (leg : ℕ → ℕ → ℕ) {along : List ℕ} where
  pub sums_none : (c : ℕ) → get_or along 0 0 ≡ 0 → Sums leg (c ∷ []) along
  sums_none c e = record { upto = by }
    where
      by : (k : ℕ) → k < 1 → get_or along k 0 ≡ legs leg (take k (c ∷ [])) (get_or (c ∷ []) k 0)
      by zero h = e
      by (suc k) h = absurd (omega arith)

  pub sum_last : (p : List ℕ) (c : ℕ) → Sums leg (p ++ c ∷ []) along → get_or along (length p) 0 ≡ legs leg p c
  sum_last p c s =
      s.upto (length p) (omega (arith, length-append p (c ∷ [])))
      ∙ (λ i. legs leg (take_at p (c ∷ []) (length p) refl i) (get_or_at p c [] 0 (length p) refl i))

  sums_part : (m : ℕ) (cells : List ℕ) → Sums leg cells along → Sums leg (take m cells) along
  sums_part m cells s = record {
    upto = λ k h.
        let inside : (k < m) × (k < length cells) = omega (arith, length-take m cells) in
        s.upto k inside.1 ∙ sym (λ i. legs leg (take-take k m cells (omega arith) i) (get_or-take m cells k 0 inside.0 i));
  }

  sums_more : (p : List ℕ) (s t : ℕ) → suc (length p) < length along → Sums leg (p ++ s ∷ []) along
      → Sums leg ((p ++ s ∷ []) ++ t ∷ []) (set along (suc (length p)) (get_or along (length p) 0 + leg s t))
  sums_more p s t room S = record { upto = λ k h. by k h (dec_le k (length p)) }
    where
      cells : List ℕ
      cells = p ++ s ∷ []

      size : length cells ≡ suc (length p)
      size = omega (arith, length-append p (s ∷ []))

      more : List ℕ
      more = set along (suc (length p)) (get_or along (length p) 0 + leg s t)

      by : (k : ℕ) → k < length (cells ++ t ∷ []) → Dec (k ≤ length p) → get_or more k 0 ≡ legs leg (take k (cells ++ t ∷ [])) (get_or (cells ++ t ∷ []) k 0)
      by k h (yes l) =
          get_or-set_other along (suc (length p)) k _ 0 (λ e. omega arith)
          ∙ S.upto k (omega (arith, size))
          ∙ sym (λ i. legs leg (take-append-le k cells (t ∷ []) (omega (arith, size)) i) (get_or-append cells (t ∷ []) 0 k (omega (arith, size)) i))
      by k h (no l) =
          let e : k ≡ suc (length p) = omega (arith, size, length-append cells (t ∷ [])) in
          ap (λ (i : ℕ). get_or more i 0) e
          ∙ get_or-set_same along (suc (length p)) _ 0 room
          ∙ ap (λ (n : ℕ). n + leg s t) (sum_last p s S)
          ∙ sym (legs_snoc leg p s t)
          ∙ sym (λ i. legs leg (take_at cells (t ∷ []) k (size ∙ sym e) i) (get_or_at cells t [] 0 k (size ∙ sym e) i))

module _ (J : Job) where
  -- going forward, to a cell off the path or on it
  gone : {along : List ℕ} (p : List ℕ) (s t : ℕ) → length (before t (p ++ s ∷ [])) < length along → Sums J.leg (p ++ s ∷ []) along
      → Sums J.leg (before t (p ++ s ∷ []) ++ t ∷ []) (noted along (length p) (length (before t (p ++ s ∷ []))) (J.leg s t))
  gone {along} p s t room S = by (dec_le (length (before t cells)) (length p))
    where
      cells : List ℕ
      cells = p ++ s ∷ []

      size : length cells ≡ suc (length p)
      size = omega (arith, length-append p (s ∷ []))

      by : Dec (length (before t cells) ≤ length p) → Sums J.leg (before t cells ++ t ∷ []) (noted along (length p) (length (before t cells)) (J.leg s t))
      by (yes h) =
          subst (Sums J.leg (before t cells ++ t ∷ [])) (sym (note_none along (length p) (length (before t cells)) (J.leg s t) h))
          (subst (λ xs. Sums J.leg xs along) (sym (before_met t cells (omega (arith, size)))) (sums_part J.leg (suc (length (before t cells))) cells S))
      by (no h) =
          let all : before t cells ≡ cells = sym (before_take t cells) ∙ take_all (length (before t cells)) cells (omega (arith, size)) in
          let many : length (before t cells) ≡ suc (length p) = ap length all ∙ size in
          let note : noted along (length p) (length (before t cells)) (J.leg s t) ≡ set along (suc (length p)) (get_or along (length p) 0 + J.leg s t) =
          note_more along (length p) (length (before t cells)) (J.leg s t) (omega arith) ∙ ap (λ (m : ℕ). set along m (get_or along (length p) 0 + J.leg s t)) many in
          subst (Sums J.leg (before t cells ++ t ∷ [])) (sym note)
          (subst (λ xs. Sums J.leg (xs ++ t ∷ []) (set along (suc (length p)) (get_or along (length p) 0 + J.leg s t))) (sym all) (sums_more J.leg p s t (omega (arith, many)) S))

  -- a decision, and its note
  pub noted-sums : {x y : State} {a d : ℕ} {along : List ℕ} → Step J x a d y → length y.path < length along → Sums J.leg (x.path ++ x.cell ∷ []) along
      → Sums J.leg (y.path ++ y.cell ∷ []) (noted along (length x.path) (length y.path) d)
  noted-sums (forward {s = s} {t = t} {path = p} g A i) room S = gone p s t room S
  noted-sums {along = along} (back_out {s = s} {l = l} {path = p} g A i) room S =
      let less : length p ≤ length (p ++ l ∷ []) = omega (arith, length-append p (l ∷ [])) in
      subst (Sums J.leg (p ++ l ∷ [])) (sym (note_none along (length (p ++ l ∷ [])) (length p) (J.leg l s) less))
      (subst (λ xs. Sums J.leg xs along) (take_at (p ++ l ∷ []) (s ∷ []) (length (p ++ l ∷ [])) refl) (sums_part J.leg (length (p ++ l ∷ [])) ((p ++ l ∷ []) ++ s ∷ []) S))
  noted-sums (stay g A i) room S = S
