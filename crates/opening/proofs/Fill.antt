-- A list filled from its first place on is, at the end, the list of a function's values; and one whose entries are changed one after another, of theirs.
-- Assumes nothing.
use Prim.Native.Nat.{ℕ, ◌+◌, ◌≤◌, ◌<◌}
use mathlib.Core.Path.{◌≡◌, sym, ap, ◌∙◌}
use mathlib.Core.List.{List}
use native.Mathlib.Omega.{arith}
use borrow.Author.Count.{below_more}
use lib.ListN.{length, get_or, set, length-set}
use lib.Seq.{get_or-set_same, get_or-set_other, ext_get_or}
use Rattle.learning.specs.Ground.{list_of}
use Rattle.learning.proofs.Spread.{list_at, list_length}

-- the first i places hold the values of g
abbrev pub Filled : (ℕ → ℕ) → ℕ → List ℕ → Type 0
Filled g i d = (k : ℕ) → k < i → get_or d k 0 ≡ g k

pub fill_more : (g : ℕ → ℕ) (i v : ℕ) (d : List ℕ) → i < length d → v ≡ g i → Filled g i d → Filled g (i + 1) (set d i v)
fill_more g i v d h e filled = below_more _ i (λ k l. get_or-set_other d i k v 0 (λ q. omega arith) ∙ filled k l) (get_or-set_same d i v 0 h ∙ e)

pub fill_all : (g : ℕ → ℕ) (n : ℕ) (d : List ℕ) → length d ≡ n → Filled g n d → d ≡ list_of n g
fill_all g n d e filled = ext_get_or 0 d (list_of n g) (e ∙ sym (list_length n g)) (λ i h. filled i (omega arith) ∙ sym (list_at n g i 0 (omega arith)))

-- the first i entries of l₀ are changed by g, the others as they were
pub record Changed (g : ℕ → ℕ) (l₀ : List ℕ) (i : ℕ) (l : List ℕ) : Type 0 where
  pub upto : i ≤ length l₀
  pub long : length l ≡ length l₀
  pub done : Filled (λ k. g (get_or l₀ k 0)) i l
  pub rest : (k : ℕ) → i ≤ k → get_or l k 0 ≡ get_or l₀ k 0

module _ {g : ℕ → ℕ} {l₀ : List ℕ} {i : ℕ} {l : List ℕ} (C : Changed g l₀ i l) where
  pub changed_more : {v : ℕ} → i < length l₀ → v ≡ g (get_or l i 0) → Changed g l₀ (i + 1) (set l i v)
  changed_more {v} h e = record {
    upto = omega arith;
    long = length-set l i v ∙ C.long;
    done = fill_more _ i v l (omega (arith, C.long)) (e ∙ ap g (C.rest i (omega arith))) C.done;
    rest = λ k o. get_or-set_other l i k v 0 (λ q. omega arith) ∙ C.rest k (omega arith);
  }

  pub changed_all : length l₀ ≤ i → l ≡ list_of (length l₀) (λ k. g (get_or l₀ k 0))
  changed_all h = fill_all _ (length l₀) l C.long (λ k o. C.done k (omega arith))
