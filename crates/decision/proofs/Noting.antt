-- A path's places noted under its cells' numbers. A note counts only where the place holds the cell, so scratch that was never cleared does no harm:
-- a cell of the path is always noted, and so a cell that is not noted is new. Assumes nothing.
use Prim.Native.Nat.{ℕ, suc, ◌+◌, ◌≤◌, ◌<◌}
use mathlib.Core.Path.{◌≡◌, refl, sym, ap, ◌∙◌}
use mathlib.Core.Logic.{◌⊎◌, inl, inr, ◌≢◌}
use mathlib.Core.Bool.{Bool, true, false}
use mathlib.Core.List.{List, [], ◌∷◌, ◌++◌, append-nil}
use native.Mathlib.Nat.{eq-or-lt_of_le}
use native.Mathlib.Numerals.{add-one}
use native.Mathlib.Omega.{arith}
use borrow.Author.Tests.{ltb-true, eqb-true, lt-ltb, eq-eqb}
use lib.ListN.{length, get_or, set, take, length-set}
use lib.Seq.{length-take-le, get_or-take, get_or-set_same, get_or-set_other, take-suc-set}
use Rattle.learning.specs.Path.{before}
use Rattle.learning.proofs.Lent.{cut_at, cut_none}
use Rattle.answers.specs.declared.Job.{Job}
use Rattle.model.proofs.Accepted.{never}
use Rattle.model.proofs.Moves.{both, both_of}
use Rattle.model.proofs.Held.{Fair}
use Rattle.decision.specs.Ready.{Places}
use Rattle.decision.specs.Inner.{is_noted, Stands, Walked, Open, Extended}

pub places_none : (place path : List ℕ) → length place ≡ 4096 → Places place path 0
places_none place path l = record { size = l; noted = λ k h. absurd (omega arith) }

pub places_down : {place path : List ℕ} {m : ℕ} (n : ℕ) → n ≤ m → Places place path m → Places place path n
places_down n h p = record { size = p.size; noted = λ k l. p.noted k (omega arith) }

-- no cell stands twice
pub places-apart : {place path : List ℕ} {n : ℕ} → Places place path n → (a b : ℕ) → a < b → b < n → get_or path a 0 ≡ get_or path b 0 → ⊥
places-apart {place} p a b h l e = omega (arith, sym (p.noted a (omega arith)) ∙ ap (λ x. get_or place x 0) e ∙ p.noted b l)

module _ (path place : List ℕ) (n c : ℕ) where
  pub noted_at : is_noted path place n c ≡ true → (get_or place c 0 < n) × (get_or path (get_or place c 0) 0 ≡ c)
  unfolding is_noted
  noted_at e = let p = both _ _ e in (ltb-true _ n p.0, eqb-true _ c p.1)

  pub unnoted : Places place path n → is_noted path place n c ≡ false → (k : ℕ) → k < n → get_or path k 0 ≡ c → ⊥
  unfolding is_noted
  unnoted p e k h q =
      let at : get_or place c 0 ≡ k = ap (λ x. get_or place x 0) (sym q) ∙ p.noted k h in
      never (both_of _ _ (lt-ltb (get_or place c 0) n (omega arith)) (eq-eqb _ c (ap (λ i. get_or path i 0) at ∙ q))) e

  -- a new cell's place is noted
  pub note_more : Places place path n → c < 4096 → get_or path n 0 ≡ c → ((k : ℕ) → k < n → get_or path k 0 ≡ c → ⊥) → Places (set place c n) path (n + 1)
  note_more p h q new = record { size = length-set place c n ∙ p.size; noted = λ k l. let m : k ≤ n = omega arith in by k (eq-or-lt_of_le m) }
    where
      by : (k : ℕ) → (k ≡ n) ⊎ (k < n) → get_or (set place c n) (get_or path k 0) 0 ≡ k
      by k (inl e) = ap (λ i. get_or (set place c n) (get_or path i 0) 0) e ∙ ap (λ x. get_or (set place c n) x 0) q ∙ get_or-set_same place c n 0 (omega (arith, p.size)) ∙ sym e
      by k (inr l) = get_or-set_other place c (get_or path k 0) n 0 (new k l) ∙ p.noted k l

-- ---- one turn of the path's check

module _ {j : Job} {bytes : List ℕ} {current : ℕ} {path : List ℕ} {i : ℕ} where
  pub stands_unfair : {place : List ℕ} {c : ℕ} → c ≡ get_or path i 0 → (Fair j bytes current c → ⊥) → Stands j bytes current path i place false
  stands_unfair q h =
      record { fair = λ e. absurd (never e refl); places = λ e. absurd (never e refl); fault = λ e f. absurd (h (rw q f)) }

  pub stands_again : {place : List ℕ} {c : ℕ} → c ≡ get_or path i 0 → is_noted path place i c ≡ true → Stands j bytes current path i place false
  stands_again {place} {c} q e =
      let n = noted_at path place i c e in
      record { fair = λ e. absurd (never e refl); places = λ e. absurd (never e refl); fault = λ _ f. (get_or place c 0, n.0, n.1 ∙ q) }

  pub stands_new : {place : List ℕ} {c : ℕ} → c ≡ get_or path i 0 → Places place path i → is_noted path place i c ≡ false → c < 4096 → Fair j bytes current c
      → Stands j bytes current path i (set place c i) true
  stands_new {place} {c} q p e l f =
      record { fair = λ _. rw q at f; places = λ _. note_more path place i c p l (sym q) (unnoted path place i c p e); fault = λ h. absurd (never refl h) }

-- ---- the whole path's check

module _ {j : Job} {bytes : List ℕ} {current : ℕ} {path : List ℕ} {n : ℕ} where
  pub walked-fault : {r : Bool} {place : List ℕ} {i : ℕ} → i < n → Stands j bytes current path i place r → r ≡ false → Walked j bytes current path n place false
  walked-fault {i = i} h s f = record {
    sound = λ e. absurd (never e refl);
    places = λ e. absurd (never e refl);
    fault = λ e w. let (k, l, q) = s.fault f (w.fair i h) in w.apart k i l h q;
  }

  pub walked_all : {place : List ℕ} → ((k : ℕ) → k < n → Fair j bytes current (get_or path k 0)) → Places place path n → Walked j bytes current path n place true
  walked_all f p = record { sound = λ e. record { fair = f; apart = places-apart p }; places = λ e. p; fault = λ h. absurd (never refl h) }

-- ---- the current cell written, and the cut

module _ {path place : List ℕ} {n current : ℕ} (o : Open path place n current) where
  abbrev written : List ℕ
  written = set path n current

  abbrev noting : List ℕ
  noting = set place current n

  now-noted : Places noting written (n + 1)
  now-noted =
      note_more written place n current
      (record { size = o.places.size; noted = λ k h. ap (λ x. get_or place x 0) (get_or-set_other path n k current 0 (λ e. omega arith)) ∙ o.places.noted k h }) o.cell
      (get_or-set_same path n current 0 o.room)
      (λ k h e. o.new k h (sym (get_or-set_other path n k current 0 (λ q. omega arith)) ∙ e))

  long : length (take (suc n) written) ≡ suc n
  long = length-take-le (suc n) written (omega (arith, o.room, length-set path n current))

  pub extended_cut : {target r : ℕ} {yes : Bool} → yes ≡ is_noted written noting (n + 1) target → yes ≡ true → r ≡ get_or noting target 0 → Extended path n current target written noting r
  extended_cut {target} {r} is e q =
      let at = noted_at written noting (n + 1) target (sym is ∙ e) in
      let here : get_or written r 0 ≡ target = ap (λ k. get_or written k 0) q ∙ at.1 in
      let miss : (i : ℕ) → i < r → get_or (take (suc n) written) i 0 ≢ target =
      λ i h f. omega (arith, sym (now-noted.noted i (omega (arith, at.0))) ∙ ap (λ x. get_or noting x 0) (sym (get_or-take (suc n) written i 0 (omega (arith, at.0))) ∙ f)) in
      let cut : before target (take (suc n) written ++ []) ≡ take r (take (suc n) written) =
      cut_at target (take (suc n) written) [] r miss (omega (arith, at.0, long)) (get_or-take (suc n) written r 0 (omega (arith, at.0)) ∙ here) in
      record {
        written = refl;
        length = sym (ap (λ l. length (before target l)) (sym (append-nil (take (suc n) written))) ∙ ap length cut ∙ length-take-le r (take (suc n) written) (omega (arith, at.0, long)));
        places = places_down r (omega (arith, at.0)) now-noted;
      }

  pub extended_on : {target : ℕ} {yes : Bool} → yes ≡ is_noted written noting (n + 1) target → yes ≡ false → Extended path n current target written noting (n + 1)
  extended_on {target} is e =
      let none = unnoted written noting (n + 1) target now-noted (sym is ∙ e) in
      let here = get_or-set_same path n current 0 o.room in
      let split = take-suc-set path n current o.room in
      let short : length (take n path) ≡ n = length-take-le n path (omega (arith, o.room)) in
      let cut : before target (take n path ++ current ∷ []) ≡ take n path ++ current ∷ [] =
      cut_none target (take n path) current
      (λ i h f. none i (omega arith) (get_or-set_other path n i current 0 (λ q. omega arith) ∙ sym (get_or-take n path i 0 (omega arith)) ∙ f)) (λ q. none n (omega arith) (here ∙ q)) in
      record {
        written = refl;
        length = sym (ap (λ l. length (before target l)) split ∙ ap length cut ∙ ap length (sym split) ∙ long ∙ sym (add-one n));
        places = now-noted;
      }
