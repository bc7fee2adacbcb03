-- Lists that are read, whatever their entries: one turn of the loop, its start and its ends.
-- Reading on from here gives what reading the whole list gives. Assumes nothing.
use Rattle.std.proofs.Common.{◌≡◌, ℕ, suc, ◌+◌, ◌-◌, ◌≤◌, ◌<◌, List, ◌++◌, length, map, drop, take, set, length-set, Option, Some, None, refl, sym, ◌∙◌, arith, add-one, take-append-drop}
use Rattle.std.proofs.lemmas.List.{length-map, length-take-le, map-set, set-append_left}
use Rattle.std.proofs.lemmas.Option.{none-some, same_Some}
use borrow.Author.Tests.{le-leb, lt-leb}
use Rattle.notation.specs.declared.digits.Run.{Run}
use Rattle.numbers.specs.Reading.{number_in, value_of, place_after, Filled, fill_from, read_list, Read}

-- what a call for one number answers, and where it leaves the reader
module _ (at : ℕ) where
  pub answered_none : (o : Option Run) → None ≡ value_of o → (at' : ℕ) → at' ≡ place_after at o → (o ≡ None) × (at' ≡ at)
  answered_none None e at' p = (refl, p)
  answered_none (Some r) e at' p = absurd (none-some r.value e)

  pub answered_some : (o : Option Run) (v : ℕ) → Some v ≡ value_of o → (at' : ℕ) → at' ≡ place_after at o → o ≡ Some (record { value = v; after = at' })
  answered_some None v e at' p = absurd (none-some v (sym e))
  answered_some (Some r) v e at' p = rw (same_Some v r.value e, p)

read_by : (f : Filled) (o : Option ℕ) (at : ℕ) (list : List ℕ) → record { answer = o; at = at; list = list } ≡ f → Read f o at list
read_by f o at list e = rw (← e) (record { answer = refl; place = refl; entries = refl })

module _ {A : Type 0} (number : A → ℕ) (most : ℕ) (input : List ℕ) (start : ℕ) (list : List A) (n : ℕ) where
  -- what is read of the whole list
  abbrev whole : Filled
  whole = read_list most input start n (map number list)

  -- the list, with the first n entries written so far
  abbrev so_far : List A → List ℕ
  so_far items = map number (items ++ drop n list)

  pub filling_long : length list < n → Read whole None start (map number list)
  unfolding read_list
  filling_long h = read_by whole None start (map number list) (sym (rw (length-map, lt-leb n (length list) h)))

  -- i of the n entries are read: reading on from here gives what reading the whole list gives
  pub record Filling (items : List A) (at i : ℕ) : Type 0 where
    pub few : i ≤ n
    pub same : length items ≡ n
    pub left : fill_from most input (n - i) i at (so_far items) ≡ whole

  pub filling : n ≤ length list → Filling (take n list) start 0
  unfolding read_list
  filling h =
      let z : n - 0 ≡ n = omega arith in
      record { few = omega arith; same = length-take-le n list h; left = rw (z, take-append-drop, length-map, le-leb n (length list) h) }

module _ {A : Type 0} {number : A → ℕ} {most : ℕ} {input : List ℕ} {start : ℕ} {list : List A} {n : ℕ} {items : List A} {at i : ℕ}
    (g : Filling number most input start list n items at i) where
  pub filling_all : n ≤ i → Read (whole number most input start list n) (Some n) at (so_far number most input start list n items)
  unfolding fill_from
  filling_all h =
      let z : n - i ≡ 0 = omega arith in
      let e : i ≡ n = omega (arith, g.few) in
      read_by _ (Some n) at _ (rw (z, e) at g.left)

  -- one number more, as a call for it answers
  module _ (h : i < n) {answer : Option ℕ} {at' : ℕ} (value : answer ≡ value_of (number_in most input at)) (place : at' ≡ place_after at (number_in most input at)) where
    turn : fill_from most input (suc (n - suc i)) i at (so_far number most input start list n items) ≡ whole number most input start list n
    turn = let z : suc (n - suc i) ≡ n - i = omega arith in rw z g.left

    pub filling_off : answer ≡ None → Read (whole number most input start list n) None at' (so_far number most input start list n items)
    unfolding fill_from
    filling_off n = let e = answered_none at (number_in most input at) (sym n ∙ value) at' place in rw e.1 (read_by _ None at _ (rw (fill_from, e.0) at turn))

    pub filling_more : (x : A) → answer ≡ Some (number x) → Filling number most input start list n (set items i x) at' (i + 1)
    unfolding fill_from
    filling_more x v =
        let e = answered_some at (number_in most input at) (number x) (sym v ∙ value) at' place in
        let l : i < length items = omega (arith, g.same) in
        let s : so_far number most input start list n (set items i x) ≡ set (so_far number most input start list n items) i (number x) =
        rw (← set-append_left items (drop n list) i x l, map-set) in
        record {
          few = omega arith;
          same = length-set items i x ∙ g.same;
          left = rw (s, add-one i) (rw (fill_from, e) at turn);
        }
