-- Decimal numbers between blanks: what stands at a place of an input, and the lists that are read from it.
use Rattle.std.specs.Prelude.{ℕ, zero, suc, ◌+◌, ◌-◌, ◌*◌, ◌≡◌, Bool, true, false, ◌&&◌, ◌||◌, List, [], ◌∷◌, eqb, leb, length, set, drop, Option, Some, None}
use Rattle.std.specs.List.{list_all}
use Rattle.model.specs.Basics.{choose}
use Rattle.model.specs.FloorText.{LF, is_digit}
use Rattle.notation.specs.declared.digits.Run.{Run}

-- space or LF
abbrev pub is_blank : ℕ → Bool
is_blank b = eqb b 32 || eqb b LF

-- the greatest number that is none too many
abbrev pub greatest : ℕ
greatest = 4294967295

-- The number that goes on at the front of a list, which stands at the place `at`, and the place after it; `value` is that of its digits so far. A blank
-- ends it, and so does the end; another byte is malformed, and so is a number above the greatest
unfoldable pub digits_from : (at value : ℕ) → List ℕ → Option Run
digits_from at value [] = Some (record { value = value; after = at })
digits_from at value (b ∷ bs) =
    elim (is_blank b) [
      | true ↦ Some (record { value = value; after = at })
      | false ↦ elim (is_digit b && leb (10 * value + (b - 48)) greatest) [ true ↦ digits_from (suc at) (10 * value + (b - 48)) bs | false ↦ None ]
    ]

-- the first number of a list, after any blanks
unfoldable pub number_from : (at : ℕ) → List ℕ → Option Run
number_from at [] = None
number_from at (b ∷ bs) = elim (is_blank b) [ true ↦ number_from (suc at) bs | false ↦ digits_from at 0 (b ∷ bs) ]

-- what stands at a place of an input
abbrev pub number_at : List ℕ → ℕ → Option Run
number_at input at = number_from at (drop at input)

abbrev pub at_most : ℕ → Option Run → Option Run
at_most most (Some r) = choose (leb r.value most) (Some r) None
at_most most None = None

-- one number more, at most `most`
unfoldable pub number_in : (most : ℕ) (input : List ℕ) (at : ℕ) → Option Run
number_in most input at = at_most most (number_at input at)

-- nothing is read after a fault
abbrev pub next_number : (failed : Bool) (most : ℕ) (input : List ℕ) (at : ℕ) → Option Run
next_number failed most input at = choose failed None (number_in most input at)

-- what is answered of it, and the place then: that after the number, or where it was looked for
abbrev pub value_of : Option Run → Option ℕ
value_of (Some r) = Some r.value
value_of None = None

abbrev pub place_after : ℕ → Option Run → ℕ
place_after at (Some r) = r.after
place_after at None = at

-- nothing but blanks is left
abbrev pub ended_at : (input : List ℕ) (at : ℕ) → Bool
ended_at input at = list_all is_blank (drop at input)

-- what is answered of a list, its length or nothing after a fault; the place then, which after a fault is where the number was looked for; and the lent
-- list with what was read
pub record Filled : Type 0 where
  pub answer : Option ℕ
  pub at : ℕ
  pub list : List ℕ

abbrev pub faulty : ℕ → List ℕ → Filled
faulty at list = record { answer = None; at = at; list = list }

-- n numbers more, stored from the place i on
unfoldable pub fill_from : (most : ℕ) (input : List ℕ) (n i at : ℕ) → List ℕ → Filled
fill_from most input zero i at list = record { answer = Some i; at = at; list = list }
fill_from most input (suc n) i at list = elim (number_in most input at) [ Some r ↦ fill_from most input n (suc i) r.after (set list i r.value) | None ↦ faulty at list ]

-- a list of n entries, each at most `most`; none where the lent list has no room for them
unfoldable pub read_list : (most : ℕ) (input : List ℕ) (at n : ℕ) → List ℕ → Filled
read_list most input at n list = choose (leb n (length list)) (fill_from most input n 0 at list) (faulty at list)

-- a list: its length, and its entries
abbrev pub list_after : (most : ℕ) (input : List ℕ) (at : ℕ) → Option Run → List ℕ → Filled
list_after most input at (Some r) list = read_list most input r.after r.value list
list_after most input at None list = faulty at list

abbrev pub list_at : (most : ℕ) (input : List ℕ) (at : ℕ) → List ℕ → Filled
list_at most input at list = list_after most input at (number_in greatest input at) list

-- of lists too nothing is read after a fault
abbrev pub next_several : (failed : Bool) (most : ℕ) (input : List ℕ) (at n : ℕ) → List ℕ → Filled
next_several failed most input at n list = choose failed (faulty at list) (read_list most input at n list)

abbrev pub next_list : (failed : Bool) (most : ℕ) (input : List ℕ) (at : ℕ) → List ℕ → Filled
next_list failed most input at list = choose failed (faulty at list) (list_at most input at list)

pub record Read (f : Filled) (result : Option ℕ) (at : ℕ) (list : List ℕ) : Type 0 where
  pub answer : result ≡ f.answer
  pub place : at ≡ f.at
  pub entries : list ≡ f.list
