-- What a decision stores: a figure where it is greater, and moves in a part of the lent list. Assumes nothing.
use Prim.Native.Nat.{ℕ, suc, ◌+◌, ◌-◌, ◌≤◌, ◌<◌}
use mathlib.Core.Path.{◌≡◌, refl, sym, ap, ap₂, ◌∙◌}
use mathlib.Core.List.{List, [], ◌∷◌, ◌++◌, map, reverse, reverse-cons, append_assoc, map-append}
use native.Mathlib.Nat.{add-zero}
use native.Mathlib.Numerals.{add-one}
use native.Mathlib.Omega.{arith}
use borrow.Author.Tests.{lt-ltb, le-ltb}
use lib.Dec.{ltb}
use lib.ListN.{get_or-append, length, get_or, set, take, drop, length-append, length-drop, length-reverse, length-map, take-append-drop, drop_of_length-le}
use lib.Seq.{drop-cons, drop-drop, set_at, drop-append-le, length-take-le, get_or-take, take_at}
use Rattle.answers.specs.declared.Job.{Job}
use Rattle.answers.specs.declared.Answer.{Answer}
use Rattle.model.specs.Basics.{choose}
use Rattle.model.specs.Floor.{opposite}
use Rattle.model.specs.Decision.{stored, laid, least_room}
use Rattle.lookahead.specs.Contract.{moves_to, Traced}
use Rattle.decision.specs.Laying.{way_back, way_of, Lays}

-- ---- the figure

module _ (table : List ℕ) (cell figure old : ℕ) (at : old ≡ get_or table cell 0) where
  pub store_none : figure ≤ old → table ≡ stored table cell figure
  store_none h = sym (ap (λ b. choose b (set table cell figure) table) (ap (λ x. ltb x figure) (sym at) ∙ le-ltb old figure h))

  pub store_new : old < figure → set table cell figure ≡ stored table cell figure
  store_new h = sym (ap (λ b. choose b (set table cell figure) table) (ap (λ x. ltb x figure) (sym at) ∙ lt-ltb old figure h))

-- ---- moves written at the front of the part of the lent list that begins at `from`

laid_in : (moves way part : List ℕ) (from n d : ℕ) → part ≡ way ++ drop n (take d (drop from moves)) → n ≡ length way → from + d ≤ length moves → n ≤ d
    → take from moves ++ (part ++ drop d (drop from moves)) ≡ laid moves from way
laid_in moves way part from n d p e h l =
    ap (λ (r : List ℕ). take from moves ++ r)
    (ap (λ (r : List ℕ). r ++ drop d rest) p
    ∙ append_assoc way (drop n (take d rest)) (drop d rest)
    ∙ ap (λ (r : List ℕ). way ++ r)
    (sym (drop-append-le n (take d rest) (drop d rest) (omega (arith, length-take-le d rest (omega (arith, length-drop from moves)))))
    ∙ ap (drop n) (take-append-drop d rest)
    ∙ drop-drop n from moves
    ∙ ap (λ k. drop (from + k) moves) e))
  where
    rest : List ℕ
    rest = drop from moves

-- the part that a decision lends on, as code names it
abbrev size_from : ℕ → ℕ
size_from from = from + least_room - from

pub part-long : (moves : List ℕ) (from : ℕ) → from + least_room ≤ length moves → least_room ≤ length (take (size_from from) (drop from moves))
part-long moves from h = omega (arith, length-take-le (size_from from) (drop from moves) (omega (arith, length-drop from moves)))

-- the route as it is traced into the part
pub lays : {j : Job} {bytes : List ℕ} {s x n : ℕ} {part moves : List ℕ} {from : ℕ} → Traced j bytes s x (take (size_from from) (drop from moves)) part n
    → from + least_room ≤ length moves → Lays moves from (moves_to j bytes s x) (take from moves ++ (part ++ drop (size_from from) (drop from moves))) n
lays {j} {bytes} {s} {x} {n} {part} {moves} {from} t h =
    record { count = t.count; moves = laid_in moves (moves_to j bytes s x) part from n (size_from from) t.written t.count (omega arith) (omega (arith, t.few)) }

-- ---- the way back

module _ {j : Job} {bytes : List ℕ} {l x n : ℕ} {out there : List ℕ} (t : Traced j bytes l x out there n) where
  pub traced_moves : (i : ℕ) → i < n → get_or there i 0 < 8
  traced_moves i h =
      let e : get_or there i 0 ≡ get_or (moves_to j bytes l x) i 0 =
      ap (λ (r : List ℕ). get_or r i 0) t.written ∙ get_or-append (moves_to j bytes l x) (drop n out) 0 i (omega (arith, t.count)) in
      omega (arith, t.moves i)

  -- the route as it is turned round into the part
  pub lays_back : {moves part : List ℕ} {from : ℕ} → part ≡ map opposite (reverse (take n there)) ++ drop n (take (size_from from) (drop from moves))
      → from + least_room ≤ length moves → Lays moves from (way_back j bytes l x) (take from moves ++ (part ++ drop (size_from from) (drop from moves))) n
  lays_back {moves} {part} {from} p h =
      let d = size_from from in
      let way : take n there ≡ moves_to j bytes l x = ap (take n) t.written ∙ take_at (moves_to j bytes l x) (drop n out) n (sym t.count) in
      let count : n ≡ length (way_back j bytes l x) =
      t.count ∙ sym (length-map (reverse (moves_to j bytes l x)) opposite ∙ length-reverse (moves_to j bytes l x)) in
      record {
        count = count;
        moves = laid_in moves (way_back j bytes l x) part from n d
            (p ∙ ap (λ (w : List ℕ). map opposite (reverse w) ++ drop n (take d (drop from moves))) way) count (omega arith) (omega (arith, t.few));
      }

-- ---- a way turned round, move by move from its end

-- the last k of the first n moves, the last one first and each turned round
abbrev turned : List ℕ → (n k : ℕ) → List ℕ
turned there n k = map opposite (reverse (drop (n - k) (take n there)))

module _ (there : List ℕ) (n : ℕ) (long : n ≤ length there) where
  size : length (take n there) ≡ n
  size = length-take-le n there long

  turned-length : (k : ℕ) → k ≤ n → length (turned there n k) ≡ k
  turned-length k h =
      length-map (reverse (drop (n - k) (take n there))) opposite ∙ length-reverse (drop (n - k) (take n there)) ∙ length-drop (n - k) (take n there) ∙ omega (arith, size)

  turned_more : (k : ℕ) → k < n → turned there n (k + 1) ≡ turned there n k ++ opposite (get_or there (n - 1 - k) 0) ∷ []
  turned_more k h =
      let x = get_or there (n - 1 - k) 0 in
      let m : n - (k + 1) ≡ n - 1 - k = omega arith in
      let next : suc (n - 1 - k) ≡ n - k = omega arith in
      let cons : drop (n - (k + 1)) (take n there) ≡ x ∷ drop (n - k) (take n there) =
      ap (λ i. drop i (take n there)) m
      ∙ drop-cons (take n there) (n - 1 - k) 0 (omega (arith, size))
      ∙ ap₂ (λ y i. y ∷ drop i (take n there)) (get_or-take n there (n - 1 - k) 0 (omega arith)) next in
      ap (λ l. map opposite (reverse l)) cons
      ∙ ap (map opposite) (reverse-cons x (drop (n - k) (take n there)))
      ∙ map-append opposite (reverse (drop (n - k) (take n there))) (x ∷ [])

-- the first k places of a part of the lent list are written with the last k moves
pub record Turned (there part : List ℕ) (n k : ℕ) (part' : List ℕ) : Type 0 where
  pub within : k ≤ n
  pub front : part' ≡ turned there n k ++ drop k part

pub turn_none : {there part : List ℕ} {n : ℕ} → n ≤ length there → Turned there part n 0 part
turn_none {there} {part} {n} long = record {
  within = omega arith;
  front = sym (ap (λ l. map opposite (reverse l) ++ part) (drop_of_length-le (take n there) {i = n - 0} (omega (arith, length-take-le n there long))));
}

module _ {there part part' : List ℕ} {n k : ℕ} (t : Turned there part n k part') (long : n ≤ length there) (room : n ≤ length part) where
  pub turn-length : length part' ≡ length part
  turn-length = ap length t.front ∙ length-append (turned there n k) (drop k part) ∙ omega (arith, turned-length there n long k t.within, length-drop k part)

  pub turn_more : {a : ℕ} → k < n → a ≡ opposite (get_or there (n - 1 - k) 0) → Turned there part n (k + 1) (set part' k a)
  turn_more {a} h e = record {
    within = omega arith;
    front =
        ap₂ (λ p x. set p k x) (t.front ∙ ap (λ l. turned there n k ++ l) (drop-cons part k 0 (omega arith))) e
        ∙ set_at (turned there n k) (get_or part k 0) (drop (suc k) part) (opposite (get_or there (n - 1 - k) 0)) k (turned-length there n long k (omega arith))
        ∙ sym (append_assoc (turned there n k) (opposite (get_or there (n - 1 - k) 0) ∷ []) (drop (suc k) part))
        ∙ ap₂ (λ l i. l ++ drop i part) (sym (turned_more there n long k h)) (sym (add-one k));
  }

  pub turn_all : n ≤ k → part' ≡ map opposite (reverse (take n there)) ++ drop n part
  turn_all h =
      let none : n - k ≡ 0 = omega arith in
      let all : k ≡ n = omega (arith, t.within) in
      t.front ∙ ap₂ (λ i m. map opposite (reverse (drop i (take n there))) ++ drop m part) none all

-- ---- by the answer

pub lays_none : (lent : List ℕ) (from : ℕ) → Lays lent from [] lent 0
lays_none lent from = record { count = refl; moves = sym (ap (λ n. take from lent ++ drop n lent) (add-zero from) ∙ take-append-drop from lent) }

pub lays_as : {a b : Answer} (e : a ≡ b) (j : Job) (bytes : List ℕ) (s : ℕ) {lent moves : List ℕ} {from n : ℕ} → Lays lent from (way_of j bytes s b) moves n
    → Lays lent from (way_of j bytes s a) moves n
lays_as e j bytes s h = rw e h
