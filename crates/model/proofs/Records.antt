-- Records written and read: what the writer puts is lawful and gives back its table; what the reader accepts is what the writer puts.
-- Both go cell by cell with `changed`; a record's cell is never below those passed.
use mathlib.Core.Path.{◌≡◌, refl, sym, ◌∙◌, ap, subst}
use mathlib.Core.Bool.{Bool, true, false, not}
use mathlib.Core.List.{List, [], ◌∷◌, ◌++◌}
use Prim.Native.Nat.{ℕ, zero, suc, ◌+◌, ◌*◌, ◌/◌, ◌%◌, ◌≤◌, ◌<◌}
use native.Mathlib.Decide.{dec_le, ℕ_discrete}
use native.Mathlib.Omega.{arith}
use lib.Dec.{ltb, eqb}
use borrow.Author.Tests.{ltb-false, eqb-true, eqb-false, not-false, le-ltb, eq-eqb}
use lib.ListN.{length, get_or, set, take, drop, length-set, length-drop}
use lib.Seq.{drop-cons, get_or-drop, get_or-set_same, get_or-set_other, ext_get_or}
use Rattle.std.specs.Prelude.{Ok}
use Rattle.model.specs.Basics.{choose}
use Rattle.model.specs.Floor.{Floor, size, free, opening}
use Rattle.model.specs.Checks.{ceiling}
use Rattle.model.specs.TableFile.{half_at, half, word, cell_in, figure_in, record_fault, judge_records, applied, changed, records_of}
use Rattle.model.proofs.Files.{Lawful, no_fault, lawful, judge_more, judge-stop, changed_same, changed_more}

-- ---- numbers of 2 bytes and of 4

pub half-read : (n : ℕ) → n < 65536 → n / 256 % 256 * 256 + n % 256 ≡ n
half-read n h = omega arith

pub word_read : (n : ℕ) → n < 4294967296 → (n / 65536 / 256 % 256 * 256 + n / 65536 % 256) * 65536 + (n / 256 % 256 * 256 + n % 256) ≡ n
word_read n h = omega arith

pub half-written : (a b : ℕ) → a < 256 → b < 256 → half (a * 256 + b) ≡ a ∷ b ∷ []
half-written a b h k =
    let x : (a * 256 + b) / 256 % 256 ≡ a = omega arith in
    let y : (a * 256 + b) % 256 ≡ b = omega arith in
    rw (x, y)

pub word-written : (a b : ℕ) → a < 65536 → b < 65536 → word (a * 65536 + b) ≡ half a ++ half b
word-written a b h k =
    let x : (a * 65536 + b) / 65536 ≡ a = omega arith in
    let y : (a * 65536 + b) / 256 % 256 ≡ b / 256 % 256 = omega arith in
    let z : (a * 65536 + b) % 256 ≡ b % 256 = omega arith in
    rw (x, y, z)

-- every entry is a byte
abbrev pub Bytes : List ℕ → Type 0
Bytes l = (k : ℕ) → get_or l k 0 < 256

pub bytes_drop : (n : ℕ) (l : List ℕ) → Bytes l → Bytes (drop n l)
bytes_drop n l b k = rw (get_or-drop n l k 0) (b (n + k))

pub half-small : (l : List ℕ) → Bytes l → (i : ℕ) → half_at l i < 65536
half-small l b i = omega (arith, b i, b (i + 1))

pub bytes_take : (n : ℕ) (l : List ℕ) → Bytes l → Bytes (take n l)
bytes_take zero l b k = omega arith
bytes_take (suc n) [] b k = b k
bytes_take (suc n) (x ∷ l) b zero = b zero
bytes_take (suc n) (x ∷ l) b (suc k) = bytes_take n l (λ j. b (suc j)) k

pub pair_at : (l : List ℕ) (i : ℕ) → i + 2 ≤ length l → drop i l ≡ get_or l i 0 ∷ get_or l (suc i) 0 ∷ drop (suc (suc i)) l
pair_at l i h =
    let a : i < length l = omega arith in
    let b : suc i < length l = omega arith in
    drop-cons l i 0 a ∙ ap (λ (t : List ℕ). get_or l i 0 ∷ t) (drop-cons l (suc i) 0 b)

-- a record is its cell and its figure, and what follows
pub record_is : (l : List ℕ) → Bytes l → 6 ≤ length l → half (cell_in l) ++ (word (figure_in l) ++ drop 6 l) ≡ l
record_is l b h =
    let c : half (cell_in l) ≡ get_or l 0 0 ∷ get_or l 1 0 ∷ [] = half-written (get_or l 0 0) (get_or l 1 0) (b 0) (b 1) in
    let d : half (half_at l 2) ≡ get_or l 2 0 ∷ get_or l 3 0 ∷ [] = half-written (get_or l 2 0) (get_or l 3 0) (b 2) (b 3) in
    let e : half (half_at l 4) ≡ get_or l 4 0 ∷ get_or l 5 0 ∷ [] = half-written (get_or l 4 0) (get_or l 5 0) (b 4) (b 5) in
    let w : word (figure_in l) ≡ half (half_at l 2) ++ half (half_at l 4) = word-written (half_at l 2) (half_at l 4) (omega (arith, b 2, b 3)) (omega (arith, b 4, b 5)) in
    let t : l ≡ get_or l 0 0 ∷ get_or l 1 0 ∷ get_or l 2 0 ∷ get_or l 3 0 ∷ get_or l 4 0 ∷ get_or l 5 0 ∷ drop 6 l =
    pair_at l 0 (omega arith)
    ∙ ap (λ (u : List ℕ). get_or l 0 0 ∷ get_or l 1 0 ∷ u) (pair_at l 2 (omega arith) ∙ ap (λ (u : List ℕ). get_or l 2 0 ∷ get_or l 3 0 ∷ u) (pair_at l 4 (omega arith))) in
    (λ i. c i ++ ((w ∙ λ j. d j ++ e j) i ++ drop 6 l)) ∙ sym t

-- ---- what the writer puts

-- a figure that the writer accepts at a cell: within the ceiling, and not unlike the opening figure
pub record Fine (f : Floor) (q : ℕ) (gs : List ℕ) (x v : ℕ) : Type 0 where
  pub within : v ≤ ceiling
  pub like : choose (free f x) (ltb v (opening f q gs x)) (not (eqb v (opening f q gs x))) ≡ false

module _ (f : Floor) (q : ℕ) (gs : List ℕ) where
  -- one that differs from the opening figure is above it, at a free cell
  fine-above : (x v : ℕ) → Fine f q gs x v → (v ≡ opening f q gs x → ⊥) → (free f x ≡ true) × (opening f q gs x < v)
  fine-above x v g d = by (free f x) refl
    where
      by : (b : Bool) → free f x ≡ b → (free f x ≡ true) × (opening f q gs x < v)
      by true e = let h : opening f q gs x ≤ v = ltb-false v (opening f q gs x) (rw e at g.like) in (e, omega arith)
      by false e = absurd (d (eqb-true v (opening f q gs x) (not-false _ (rw e at g.like))))

  module _ (table : List ℕ) (small : size f ≤ 4096) (fine : (x : ℕ) → x < size f → Fine f q gs x (get_or table x 0)) where
    -- the record of a changed cell
    abbrev put_at : ℕ → List ℕ → List ℕ
    put_at x rest = half x ++ (word (get_or table x 0) ++ rest)

    cell-read : (x : ℕ) (rest : List ℕ) → x < size f → cell_in (put_at x rest) ≡ x
    cell-read x rest h = half-read x (omega arith)

    figure-read : (x : ℕ) (rest : List ℕ) → x < size f → figure_in (put_at x rest) ≡ get_or table x 0
    figure-read x rest h = word_read (get_or table x 0) (omega (arith, (fine x h).within))

    put_lawful : (x low : ℕ) (rest : List ℕ) → x < size f → low ≤ x → (get_or table x 0 ≡ opening f q gs x → ⊥) → Lawful f q gs low (put_at x rest)
    put_lawful x low rest h l d =
        let c = cell-read x rest h in
        let v = figure-read x rest h in
        let a = fine-above x (get_or table x 0) (fine x h) d in
        record {
          inside = rw c h;
          open-cell = rw c a.0;
          rising = rw c l;
          above = rw (c, v) a.1;
          within = rw v (fine x h).within;
        }

    -- the records of the cells from x on are lawful
    pub written-judged : (m x i low : ℕ) → x + m ≤ size f → low ≤ x → judge_records f q gs (length (changed f q gs table m x)) i low (records_of table (changed f q gs table m x)) ≡ Ok tt
    unfolding changed records_of judge_records
    written-judged zero x i low h l = refl
    written-judged (suc m) x i low h l =
        by (eqb (get_or table x 0) (opening f q gs x)) refl (λ i low l. written-judged m (suc x) i low (omega arith) l)
      where
        by : (b : Bool) → eqb (get_or table x 0) (opening f q gs x) ≡ b
            → ((i low : ℕ) → low ≤ suc x → judge_records f q gs (length (changed f q gs table m (suc x))) i low (records_of table (changed f q gs table m (suc x))) ≡ Ok tt)
            → judge_records f q gs (length (changed f q gs table (suc m) x)) i low (records_of table (changed f q gs table (suc m) x)) ≡ Ok tt
        by true e r = rw (changed_same f q gs table m x (eqb-true _ _ e)) (r i low (omega arith))
        by false e r =
            let cells = changed f q gs table m (suc x) in
            let d = eqb-false (get_or table x 0) (opening f q gs x) e in
            let k : x < size f = omega arith in
            let p = put_at x (records_of table cells) in
            let j = judge_more f q gs low p (length cells) i (no_fault f q gs low p (put_lawful x low (records_of table cells) k l d)) in
            rw (changed_more f q gs table m x d) (j ∙ (rw (cell-read x (records_of table cells) k) (r (suc i) (suc x) (omega arith))))

    -- t has this table's figures below x, and the opening figures from there on
    pub record Made (t : List ℕ) (x : ℕ) : Type 0 where
      pub same : length t ≡ length table
      pub below : (k : ℕ) → k < x → get_or t k 0 ≡ get_or table k 0
      pub rest : (k : ℕ) → x ≤ k → k < size f → get_or t k 0 ≡ opening f q gs k

    made_next : (t u : List ℕ) (x : ℕ) → Made t x → length u ≡ length t → get_or u x 0 ≡ get_or table x 0 → ((k : ℕ) → (k ≡ x → ⊥) → get_or u k 0 ≡ get_or t k 0) → Made u (suc x)
    made_next t u x g n e other = record {
      same = n ∙ g.same;
      below = λ k l. at k l (dec_le x k);
      rest = λ k l h. other k (λ z. omega arith) ∙ g.rest k (omega arith) h;
    }
      where
        at : (k : ℕ) → k < suc x → Dec (x ≤ k) → get_or u k 0 ≡ get_or table k 0
        at k l (yes p) = let z : k ≡ x = omega arith in rw z e
        at k l (no p) = other k (λ z. p (omega arith)) ∙ g.below k (omega arith)

    -- put into it, the records of the cells from x on make this table
    pub written-applied : (m x : ℕ) (t : List ℕ) → Made t x → x + m ≡ size f → length table ≡ size f
        → applied (length (changed f q gs table m x)) (records_of table (changed f q gs table m x)) t ≡ table
    unfolding changed records_of applied
    written-applied zero x t g h b = ext_get_or 0 t table g.same (λ k l. g.below k (omega (arith, g.same)))
    written-applied (suc m) x t g h b =
        by (eqb (get_or table x 0) (opening f q gs x)) refl (λ u v. written-applied m (suc x) u v (omega arith) b)
      where
        by : (c : Bool) → eqb (get_or table x 0) (opening f q gs x) ≡ c
            → ((u : List ℕ) → Made u (suc x) → applied (length (changed f q gs table m (suc x))) (records_of table (changed f q gs table m (suc x))) u ≡ table)
            → applied (length (changed f q gs table (suc m) x)) (records_of table (changed f q gs table (suc m) x)) t ≡ table
        by true e r =
            let s = eqb-true (get_or table x 0) (opening f q gs x) e in
            rw (changed_same f q gs table m x s) (r t (made_next t t x g refl (g.rest x (omega arith) (omega arith) ∙ sym s) (λ k z. refl)))
        by false e r =
            let d = eqb-false (get_or table x 0) (opening f q gs x) e in
            let k : x < size f = omega arith in
            let cells = changed f q gs table m (suc x) in
            let rest = records_of table cells in
            let v = get_or table x 0 in
            rw (changed_more f q gs table m x d)
            ((λ j. applied (length cells) rest (set t (cell-read x rest k j) (figure-read x rest k j))) ∙ r (set t x v)
            (made_next t (set t x v) x g (length-set t x v) (get_or-set_same t x v 0 (omega (arith, g.same))) (λ j z. get_or-set_other t x j v 0 z)))

  -- ---- what the reader accepts

  -- the first of the accepted records is lawful, and the others are accepted after it
  first : (n i low : ℕ) (part : List ℕ) → judge_records f q gs (suc n) i low part ≡ Ok tt → Lawful f q gs low part
  first n i low part e = by (record_fault f q gs low part) refl
    where
      by : (k : ℕ) → record_fault f q gs low part ≡ k → Lawful f q gs low part
      by zero z = lawful f q gs low part z
      by (suc k) z = let w = judge-stop f q gs low part n i (suc k) z (λ y. omega arith) in let y : ◌≡◌ {A = ℕ} 0 1 = cc in absurd (omega arith)

  others : (n i low : ℕ) (part : List ℕ) → judge_records f q gs (suc n) i low part ≡ Ok tt → judge_records f q gs n (suc i) (suc (cell_in part)) (drop 6 part) ≡ Ok tt
  others n i low part e = sym (judge_more f q gs low part n i (no_fault f q gs low part (first n i low part e))) ∙ e

  -- they are accepted from any bound that the first one's cell meets
  raised : (n i low x : ℕ) (part : List ℕ) → judge_records f q gs (suc n) i low part ≡ Ok tt → x ≤ cell_in part → judge_records f q gs (suc n) i x part ≡ Ok tt
  raised n i low x part e h =
      let l = first n i low part e in
      let w : Lawful f q gs x part = record { inside = l.inside; open-cell = l.open-cell; rising = h; above = l.above; within = l.within } in
      judge_more f q gs x part n i (no_fault f q gs x part w) ∙ others n i low part e

  -- accepted records leave the cells below the bound as they are, and the length
  applied-below : (n i low : ℕ) (part t : List ℕ) → judge_records f q gs n i low part ≡ Ok tt → (k : ℕ) → k < low → get_or (applied n part t) k 0 ≡ get_or t k 0
  unfolding applied
  applied-below zero i low part t e k h = refl
  applied-below (suc n) i low part t e k h =
      let l = first n i low part e in
      applied-below n (suc i) (suc (cell_in part)) (drop 6 part) (set t (cell_in part) (figure_in part)) (others n i low part e) k (omega (arith, l.rising))
      ∙ get_or-set_other t (cell_in part) k (figure_in part) 0 (λ z. omega (arith, l.rising))

  pub applied-length : (n : ℕ) (part t : List ℕ) → length (applied n part t) ≡ length t
  unfolding applied
  applied-length zero part t = refl
  applied-length (suc n) part t = applied-length n (drop 6 part) (set t (cell_in part) (figure_in part)) ∙ length-set t (cell_in part) (figure_in part)

  -- accepted records, put into opening figures: the cells from x on that differ are theirs, and their records are these bytes
  pub record Again (m x n : ℕ) (part table : List ℕ) : Type 0 where
    pub count : length (changed f q gs table m x) ≡ n
    pub bytes : records_of table (changed f q gs table m x) ≡ part

  pub again : (m x n i : ℕ) (part t : List ℕ) → x + m ≡ size f → length t ≡ size f → judge_records f q gs n i x part ≡ Ok tt → length part ≡ 6 * n → Bytes part
      → ((k : ℕ) → x ≤ k → k < size f → get_or t k 0 ≡ opening f q gs k) → Again m x n part (applied n part t)
  unfolding changed records_of applied judge_records
  again zero x zero i [] t h a e l b o = record { count = refl; bytes = refl }
  again zero x zero i (y ∷ ys) t h a e l b o = absurd (omega arith)
  again zero x (suc n) i part t h a e l b o = let w = first n i x part e in absurd (omega (arith, w.inside, w.rising))
  again (suc m) x zero i part t h a e l b o =
      let r = again m (suc x) zero i part t (omega arith) a refl l b (λ k p. o k (omega arith)) in
      let s = changed_same f q gs t m x (o x (omega arith) (omega arith)) in
      record { count = rw s r.count; bytes = rw s r.bytes }
  again (suc m) x (suc n) i part t h a e l b o =
      by (dec_le (suc x) (cell_in part)) (λ j p. again m (suc x) (suc n) i part t (omega arith) a j l b p)
      (λ z u. again m (suc x) n (suc i) (drop 6 part) (set t (cell_in part) (figure_in part)) (omega arith) (length-set t (cell_in part) (figure_in part) ∙ a) z (length-drop 6 part ∙ omega arith)
      (bytes_drop 6 part b) u)
    where
      by : Dec (suc x ≤ cell_in part)
          → (judge_records f q gs (suc n) i (suc x) part ≡ Ok tt → ((k : ℕ) → suc x ≤ k → k < size f → get_or t k 0 ≡ opening f q gs k) → Again m (suc x) (suc n) part (applied (suc n) part t))
          → (judge_records f q gs n (suc i) (suc x) (drop 6 part) ≡ Ok tt → ((k : ℕ) → suc x ≤ k → k < size f → get_or (set t (cell_in part) (figure_in part)) k 0 ≡ opening f q gs k)
          → Again m (suc x) n (drop 6 part) (applied n (drop 6 part) (set t (cell_in part) (figure_in part))))
          → Again (suc m) x (suc n) part (applied (suc n) part t)
      by (yes p) r q' =
          let j = raised n i x (suc x) part e p in
          let s = changed_same f q gs (applied (suc n) part t) m x (applied-below (suc n) i (suc x) part t j x (omega arith) ∙ o x (omega arith) (omega arith)) in
          let g = r j (λ k p. o k (omega arith)) in
          record { count = rw s g.count; bytes = rw s g.bytes }
      by (no p) r q' =
          let w = first n i x part e in
          let c : cell_in part ≡ x = omega (arith, w.rising) in
          let v = figure_in part in
          let t' = set t (cell_in part) v in
          let j : judge_records f q gs n (suc i) (suc x) (drop 6 part) ≡ Ok tt = subst (λ (z : ℕ). judge_records f q gs n (suc i) (suc z) (drop 6 part) ≡ Ok tt) c (others n i x part e) in
          let g = q' j (λ k l₂ p₂. get_or-set_other t (cell_in part) k v 0 (λ z. omega arith) ∙ o k (omega arith) p₂) in
          let y : get_or (applied n (drop 6 part) t') x 0 ≡ v =
          applied-below n (suc i) (suc x) (drop 6 part) t' j x (omega arith) ∙ (ap (λ (z : ℕ). get_or t' z 0) (sym c) ∙ get_or-set_same t (cell_in part) v 0 (omega (arith, w.inside))) in
          let d : get_or (applied n (drop 6 part) t') x 0 ≡ opening f q gs x → ⊥ = λ z. omega (arith, rw c at w.above) in
          let s = changed_more f q gs (applied n (drop 6 part) t') m x d in
          record {
            count = rw s (ap suc g.count);
            bytes = rw s ((λ j. half (sym c j) ++ (word (y j) ++ g.bytes j)) ∙ record_is part b (omega arith));
          }

  -- and every figure is one that the writer accepts
  pub fine-opening : (x : ℕ) → opening f q gs x ≤ ceiling → Fine f q gs x (opening f q gs x)
  fine-opening x h = record { within = h; like = by (free f x) }
    where
      by : (b : Bool) → choose b (ltb (opening f q gs x) (opening f q gs x)) (not (eqb (opening f q gs x) (opening f q gs x))) ≡ false
      by true = le-ltb (opening f q gs x) (opening f q gs x) (omega arith)
      by false = ap not (eq-eqb (opening f q gs x) (opening f q gs x) refl)

  pub applied-fine : (n i low : ℕ) (part t : List ℕ) → judge_records f q gs n i low part ≡ Ok tt → length t ≡ size f → ((x : ℕ) → x < size f → Fine f q gs x (get_or t x 0))
      → (x : ℕ) → x < size f → Fine f q gs x (get_or (applied n part t) x 0)
  unfolding applied
  applied-fine zero i low part t e a fine = fine
  applied-fine (suc n) i low part t e a fine =
      applied-fine n (suc i) (suc (cell_in part)) (drop 6 part) (set t (cell_in part) (figure_in part)) (others n i low part e) (length-set t (cell_in part) (figure_in part) ∙ a)
      (λ x h. by x h (ℕ_discrete x (cell_in part)))
    where
      l : Lawful f q gs low part
      l = first n i low part e

      by : (x : ℕ) → x < size f → Dec (x ≡ cell_in part) → Fine f q gs x (get_or (set t (cell_in part) (figure_in part)) x 0)
      by x h (yes z) = rw (z, get_or-set_same t (cell_in part) (figure_in part) 0 (omega (arith, l.inside)))
          (record { within = l.within; like = rw l.open-cell (le-ltb (figure_in part) (opening f q gs (cell_in part)) (omega (arith, l.above))) })
      by x h (no z) = rw (get_or-set_other t (cell_in part) x (figure_in part) 0 z) (fine x h)
