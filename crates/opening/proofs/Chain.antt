-- The queue linked inside the list of distances: what a store does to the distances and to the links, what the moves of one cost from a cell do,
-- and the goals entered one after another. Assumes nothing.
use Prim.Native.Nat.{ℕ, zero, suc, ◌+◌, ◌-◌, ◌/◌, ◌%◌, ◌≤◌, ◌<◌}
use mathlib.Core.Path.{◌≡◌, refl, sym, ap, ap₂, ◌∙◌, subst}
use mathlib.Core.Bool.{false}
use mathlib.Core.List.{List}
use native.Mathlib.Decide.{ℕ_discrete}
use native.Mathlib.Numerals.{unary_clauses}
use native.Mathlib.Omega.{arith}
use borrow.Author.Tests.{lt-ltb, le-ltb}
use lib.ListN.{length, get_or, set, length-set}
use lib.Seq.{get_or-set_same, get_or-set_other}
use Rattle.std.specs.Prelude.{Option}
use Rattle.learning.specs.Ground.{pick}
use Rattle.model.specs.Floor.{Floor, size, Sized, free}
use Rattle.model.proofs.Accepted.{never}
use Rattle.model.proofs.Cells.{col_at, row_at}
use Rattle.model.proofs.Moves.{free-below, sized-cells}
use Rattle.floor.specs.Moves.{all_kinds, cost, can_cost, step_of}
use Rattle.floor.specs.declared.Step.{Step}
use Rattle.floor.proofs.Steps.{stepped, step_can}
use Rattle.opening.specs.Search.{none, Queue}
use Rattle.opening.specs.Chain.{links, end, entry, dist_at, next_at, cell_at, Chain, entered, lined, Entered, stays, enters, Enterable, Follows}
use Rattle.opening.proofs.Queue.{Put, put_at_lem, queue-near, followed_none, followed_stays, followed_enters, followed_blocked}

-- ---- entries

module _ (l : List ℕ) (x v y : ℕ) (h : x < length l) (s : y < links) where
  dist_here : dist_at (set l x (entry v y)) x ≡ v
  unfolding dist_at
  dist_here = ap (λ w. w / links) (get_or-set_same l x (entry v y) 0 h) ∙ row_at links y v s

  next_here : next_at (set l x (entry v y)) x ≡ y
  unfolding next_at
  next_here = ap (λ w. w % links) (get_or-set_same l x (entry v y) 0 h) ∙ col_at links y v s

dist_else : (l : List ℕ) (x w y : ℕ) → (y ≡ x → ⊥) → dist_at (set l x w) y ≡ dist_at l y
unfolding dist_at
dist_else l x w y e = ap (λ w. w / links) (get_or-set_other l x y w 0 e)

pub dist-set : (l : List ℕ) (x v y : ℕ) → x < length l → y < links → Put (dist_at l) x v (dist_at (set l x (entry v y)))
dist-set l x v y h s = record { here = dist_here l x v y h s; else = dist_else l x (entry v y) }

next_else : (l : List ℕ) (x w y : ℕ) → (y ≡ x → ⊥) → next_at (set l x w) y ≡ next_at l y
unfolding next_at
next_else l x w y e = ap (λ w. w % links) (get_or-set_other l x y w 0 e)

-- the cell b gets the distance v and is linked to the last, in a list as long
pub entered-long : (l : List ℕ) (last b v : ℕ) → length (entered l last b v) ≡ length l
entered-long l last b v = length-set (set l last (entry (dist_at l last) b)) b (entry v end) ∙ length-set l last (entry (dist_at l last) b)

module _ (l : List ℕ) (last b v : ℕ) (fits : last < length l) (inside : b < length l) (small : b < links) (apart : last ≡ b → ⊥) where
  abbrev linked : List ℕ
  linked = set l last (entry (dist_at l last) b)

  on : b < length linked
  on = omega (arith, length-set l last (entry (dist_at l last) b))

  dist-entered : Put (dist_at l) b v (dist_at (entered l last b v))
  dist-entered = record { here = dist_here linked b v end on (omega arith); else = λ y e. dist_else linked b (entry v end) y e ∙ by y (ℕ_discrete y last) }
    where
      by : (y : ℕ) → Dec (y ≡ last) → dist_at linked y ≡ dist_at l y
      by y (yes e) = ap (dist_at linked) e ∙ dist_here l last (dist_at l last) b fits small ∙ ap (dist_at l) (sym e)
      by y (no e) = dist_else l last (entry (dist_at l last) b) y e

  next_last : next_at (entered l last b v) last ≡ b
  next_last = next_else linked b (entry v end) last apart ∙ next_here l last (dist_at l last) b fits small

  next_new : next_at (entered l last b v) b ≡ end
  next_new = next_here linked b v end on (omega arith)

  next_other : (y : ℕ) → (y ≡ last → ⊥) → (y ≡ b → ⊥) → next_at (entered l last b v) y ≡ next_at l y
  next_other y e g = next_else linked b (entry v end) y g ∙ next_else l last (entry (dist_at l last) b) y e

-- ---- the cell at a place

pub cell_in_lem : (q : ℕ → ℕ) (n i : ℕ) → i < n → cell_at q n i ≡ q i
cell_in_lem q n i h = ap (λ b. pick b (q i) end) (lt-ltb i n h)

pub cell_out : (q : ℕ → ℕ) (n i : ℕ) → n ≤ i → cell_at q n i ≡ end
cell_out q n i h = ap (λ b. pick b (q i) end) (le-ltb i n h)

-- a queue of one
pub chain_one : (l : List ℕ) (q : ℕ → ℕ) (v : ℕ) → q 0 < length l → Chain (set l (q 0) (entry v end)) q 1 (q 0)
chain_one l q v h = record {
  some = omega arith;
  final = refl;
  linked = λ i o. let e : i ≡ 0 = omega arith in ap (λ j. next_at (set l (q 0) (entry v end)) (q j)) e ∙ next_here l (q 0) v end h (omega arith) ∙ sym (cell_out q 1 (i + 1) (omega arith));
}

-- the queue's last is a cell
pub chain_last : {f : Floor} {l : List ℕ} {q : ℕ → ℕ} {n last v : ℕ} → Queue f (dist_at l) q n v → Chain l q n last → last < size f
chain_last {n = n} Q C = omega (arith, C.final, Q.on (n - 1) (omega (arith, C.some)))

-- ---- a step

module _ {f : Floor} (z : Sized f) where
  -- a new cell is not in the queue, so not its last; and its links
  module _ {l : List ℕ} {q : ℕ → ℕ} {n last b v : ℕ} (long : length l ≡ size f) (Q : Queue f (dist_at l) q n v) (C : Chain l q n last) (inside : b < size f) (new : none ≤ dist_at l b) where
    outside : (i : ℕ) → i < n → q i ≡ b → ⊥
    outside i h e = omega (arith, queue-near z Q i h, ap (dist_at l) e)

    last_on : last < length l
    last_on = omega (arith, chain_last Q C)

    not_last : last ≡ b → ⊥
    not_last e = outside (n - 1) (omega (arith, C.some)) (C.final ∙ e)

    small : b < links
    small = omega (arith, sized-cells z)

    pub dist-push : (w : ℕ) → Put (dist_at l) b w (dist_at (entered l last b w))
    dist-push w = dist-entered l last b w last_on (omega arith) small not_last

    pub chain-push : {q' : ℕ → ℕ} → Put q n b q' → (w : ℕ) → Chain (entered l last b w) q' (n + 1) b
    chain-push {q'} R w = record {
      some = omega arith;
      final = (let e : n + 1 - 1 ≡ n = omega arith in ap q' e) ∙ R.here;
      linked = λ i h. by i h (ℕ_discrete i n) (ℕ_discrete (i + 1) n);
    }
      where
        l' : List ℕ
        l' = entered l last b w

        by : (i : ℕ) → i < n + 1 → Dec (i ≡ n) → Dec (i + 1 ≡ n) → next_at l' (q' i) ≡ cell_at q' (n + 1) (i + 1)
        by i h (yes e) d = ap (next_at l') (ap q' e ∙ R.here) ∙ next_new l last b w last_on (omega arith) small not_last ∙ sym (cell_out q' (n + 1) (i + 1) (omega arith))
        by i h (no e) (yes g) =
            let k : i ≡ n - 1 = omega arith in
            ap (next_at l') (R.else i e ∙ ap q k ∙ C.final) ∙ next_last l last b w last_on (omega arith) small not_last
            ∙ sym (cell_in_lem q' (n + 1) (i + 1) (omega arith) ∙ ap q' g ∙ R.here)
        by i h (no e) (no g) =
            let next : next_at l (q i) ≡ q (i + 1) = C.linked i (omega arith) ∙ cell_in_lem q n (i + 1) (omega arith) in
            let ends : next_at l last ≡ end = ap (next_at l) (sym C.final) ∙ C.linked (n - 1) (omega arith) ∙ cell_out q n (n - 1 + 1) (omega arith) in
            let other : q i ≡ last → ⊥ = λ u. omega (arith, next, ends, ap (next_at l) u, Q.on (i + 1) (omega arith), sized-cells z) in
            ap (next_at l') (R.else i e) ∙ next_other l last b w last_on (omega arith) small not_last (q i) other (outside i (omega arith))
            ∙ next ∙ sym (cell_in_lem q' (n + 1) (i + 1) (omega arith) ∙ R.else (i + 1) g)

  module _ {x c v : ℕ} {l : List ℕ} {last : ℕ} where
    pub follows_none : length l ≡ size f → last < size f → Follows f x c v 0 l last l last
    follows_none long fits = record { long = long; final = fits; keeps = λ q n Q C slow. (q, n, followed_none f x c v (dist_at l) q n Q, C) }

    pub follows_blocked : free f x ≡ false → length l ≡ size f → last < size f → Follows f x c v 8 l last l last
    follows_blocked e long fits = record { long = long; final = fits; keeps = λ q n Q C slow. (q, n, followed_blocked f z x c v e Q, C) }

    -- the eighth is the last
    pub follows_all : {m : ℕ} {l' : List ℕ} {last' : ℕ} → m ≤ 8 → 8 ≤ m → Follows f x c v m l last l' last' → Follows f x c v 8 l last l' last'
    follows_all {m} {l'} {last'} h g F =
        let e : m ≡ 8 = omega arith in
        subst (λ n. Follows f x c v n l last l' last') e F

    pub follows_more : {m : ℕ} {l' l'' : List ℕ} {last' last'' : ℕ} → Follows f x c v m l last l' last' → Entered (step_of f x m) c v l' last' l'' last'' → Follows f x c v (m + 1) l last l'' last''
    follows_more F (stays h) = record {
      long = F.long;
      final = F.final;
      keeps = λ q n Q C slow. let (q', n', G, K) = F.keeps q n Q C slow in (q', n', followed_stays z G h, K);
    }
    follows_more {m} {l'} {l''} {last'} F (enters b t new) =
        let inside = free-below f b (stepped f z x m b c t).free in
        record {
          long = entered-long l' last' b v ∙ F.long;
          final = inside;
          keeps = λ q n Q C slow.
              let (q', n', G, K) = F.keeps q n Q C slow in
              let (q'', R) = put_at_lem q' n' b in
              (q'', n' + 1, followed_enters z G slow b t new (dist-push F.long G.queue K inside new v) R, chain-push F.long G.queue K inside new R v);
        }

  pub enterable : {v last : ℕ} {l : List ℕ} (x m : ℕ) (s : Option Step) → s ≡ step_of f x m → length l ≡ size f → last < size f → v < none → Enterable s v l last
  enterable x m s is long fits small = record {
    inside = λ b c t. let u = stepped f z x m b c (sym is ∙ t) in (omega (arith, free-below f b u.free), omega (arith, u.few));
    final = omega arith;
    small = small;
  }

-- a move that cannot have the cost is passed over
pub passed_over : {f : Floor} {v last : ℕ} {l : List ℕ} → Sized f → (x m k : ℕ) → m < 8 → k < all_kinds → can_cost m k ≡ false → Entered (step_of f x m) (cost k) v l last l last
passed_over z x m k l h e = stays (λ b t. absurd (never (step_can z x m b k l h t) e))

-- ---- the goals, one after another

pub lined-long : (l gs : List ℕ) (k : ℕ) → length (lined l gs k) ≡ length l
unfolding lined
lined-long l gs zero = refl
lined-long l gs (suc zero) = length-set l (get_or gs 0 0) (entry 0 end)
lined-long l gs (suc (suc k)) = entered-long (lined l gs (suc k)) (get_or gs k 0) (get_or gs (suc k) 0) 0 ∙ lined-long l gs (suc k)

pub lined_more : (l gs : List ℕ) (k : ℕ) → 1 ≤ k → lined l gs (k + 1) ≡ entered (lined l gs k) (get_or gs (k - 1) 0) (get_or gs k 0) 0
unfolding lined
lined_more l gs zero h = absurd (omega arith)
lined_more l gs (suc k) h = simp unary_clauses refl

-- the first i goals have been entered: l₁ is whatever list with the first of them entered, and l is that list now
pub record Lining (l₁ gs l : List ℕ) (last i : ℕ) : Type 0 where
  -- one at least, and not more than there are
  pub some : 1 ≤ i
  pub upto : i ≤ length gs
  -- what the list holds
  pub list : (l₀ : List ℕ) → l₁ ≡ lined l₀ gs 1 → l ≡ lined l₀ gs i
  -- which of them is the last
  pub final : last ≡ get_or gs (i - 1) 0

module _ {l₁ gs : List ℕ} where
  pub lining_more : {l l' : List ℕ} {last g i : ℕ} → Lining l₁ gs l last i → i < length gs → g ≡ get_or gs i 0 → l' ≡ entered l last g 0 → Lining l₁ gs l' g (i + 1)
  lining_more {l} {l'} {last} {g} {i} L h e t = record {
    some = omega arith;
    upto = omega arith;
    list = λ l₀ b. t ∙ ap (λ l. entered l last g 0) (L.list l₀ b) ∙ ap₂ (λ x y. entered (lined l₀ gs i) x y 0) L.final e ∙ sym (lined_more l₀ gs i L.some);
    final = let back : i ≡ i + 1 - 1 = omega arith in e ∙ ap (λ k. get_or gs k 0) back;
  }
