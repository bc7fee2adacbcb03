-- From ring to ring: the marks are the fewest moves from s, and each ring is the one after the ring before it.
-- Assumes nothing.
use mathlib.Core.Path.{◌≡◌, refl, ap, sym, ◌∙◌}
use mathlib.Core.List.{List}
use mathlib.Core.Bool.{Bool, true, false}
use mathlib.Core.Logic.{inl, inr}
use Prim.Native.Nat.{ℕ, ◌+◌, ◌≤◌, ◌<◌}
use native.Mathlib.Omega.{arith}
use native.Mathlib.Decide.{dec_le, dec_lt}
use borrow.Author.Tests.{leb-true, leb-false}
use lib.Dec.{leb}
use lib.ListN.{length, length-set}
use lib.Seq.{get_or-set_same}
use Rattle.learning.specs.Walk.{Walk, stop, move, Any}
use Rattle.learning.specs.Stretch.{stretched_some}
use Rattle.learning.proofs.Walks.{restate}
use Rattle.model.specs.Basics.{any, member}
use Rattle.model.specs.Floor.{Floor, Sized, free, price}
use Rattle.model.specs.Checks.{deepest}
use Rattle.model.specs.Lookahead.{fineness}
use Rattle.model.proofs.Accepted.{never}
use Rattle.model.proofs.Lists.{any_some, any_fails}
use Rattle.model.proofs.Moves.{free_few}
use Rattle.floor.proofs.Steps.{price-step}
use Rattle.lookahead.specs.Contract.{last_base, Fresh}
use Rattle.lookahead.specs.Marks.{net, State, begun, mark_of, cost_at, cell_of, In, Sizes, Room, Spread, Kept, Swept, Segment}
use Rattle.lookahead.specs.Rings.{Done, Level, Full, Marked, Framed, Unmet, Blocked}
use Rattle.lookahead.proofs.Blanks.{blanks-set, blanks_all}
use Rattle.lookahead.proofs.Stores.{by_store}
use Rattle.lookahead.proofs.Grow.{kept_in, entered_new, entered-size, entered-blank}

-- the rings 0 to r are marked, none is empty, and no goal is in one of them; the cells of the last stand in the list from `from` on
pub record Ringed (f : Floor) (s : ℕ) (gs : List ℕ) (base r from : ℕ) (S : State) : Type 0 where
  pub far : Unmet gs base S
  pub full : Full base (base + r) S
  pub level : Level f s base (base + r) from S

-- only s has a mark
module _ {f : Floor} (z : Sized f) (s : ℕ) (on : free f s ≡ true) {base : ℕ} {mark cost list : List ℕ} (F : Fresh base mark cost list) where
  abbrev S₀ : State
  S₀ = begun base mark cost list s

  inside : s < length mark
  inside = omega (arith, free_few f s z on)

  only : (x : ℕ) → In base S₀.mark x → x ≡ s
  only x = by_store (λ y. base ≤ y → x ≡ s) mark s base x inside (λ e p. e) (λ n p. absurd (omega (arith, F.marks.below x)))

  mark-s : mark_of S₀ s ≡ base
  mark-s = get_or-set_same mark s base 0 inside

  cost-s : cost_at S₀ s ≡ 0
  cost-s = get_or-set_same cost s 0 0 (omega (arith, free_few f s z on))

  list-s : cell_of S₀ 0 ≡ s
  list-s = entered_new list 0 s F.cells (omega arith)

  mark-le : (x : ℕ) → mark_of S₀ x ≤ base
  mark-le x = by_store (λ y. y ≤ base) mark s base x inside (λ e. omega arith) (λ n. omega (arith, F.marks.below x))

  begin-sizes : Sizes base S₀
  begin-sizes = record {
    marks = simp length-set F.marks.size;
    costs = simp length-set F.costs;
    cells = entered-size list 0 s F.cells (omega arith);
    count = omega (arith, blanks-set base mark s base inside (F.marks.below s) (omega arith), blanks_all base mark F.marks.below);
  }

  begin-room : Room f base S₀
  begin-room = record {
    sized = z;
    sizes = begin-sizes;
    free = λ x p. rw (only x p) on;
    cheap = λ x p. rw (only x p, cost-s) (omega arith);
    notes = λ i l j x y lj e. let q : i ≡ 0 = omega arith in inl (rw q (entered-blank list 0 s F.cells (omega arith)));
  }

  first : (i : ℕ) → i < 1 → mark_of S₀ (cell_of S₀ i) ≡ base
  first i p = let e : i ≡ 0 = omega arith in rw (e, list-s) mark-s

  begin-spread : Spread f s base base 0 S₀
  begin-spread = record {
    top = mark-le;
    walks = λ x p. rw (only x p, mark-s) (0, restate refl (omega arith) (stop (rw mark-s (omega arith))));
    costs = λ x p. rw (only x p, cost-s) (0, stop {a = s} (omega (arith, mark-s)));
    listed = λ x p. (0, omega arith, list-s ∙ sym (only x p), λ e. omega arith);
    early = λ i p. omega (arith, first i p);
    late = λ i p l. first i p;
    upto = omega arith;
  }

  -- no other cell has a mark, so no goal
  begin_unmet : (gs : List ℕ) → member s gs ≡ false → Unmet gs base S₀
  begin_unmet gs n x m = by_store (λ y. y < base) mark s base x inside (λ e. absurd (never m (ap (λ y. member y gs) e ∙ n))) (λ o. F.marks.below x)

  pub ringed_begin : {gs : List ℕ} {S : State} → S ≡ begun base mark cost list s → member s gs ≡ false → Ringed f s gs base 0 0 S
  ringed_begin {gs} e n =
      let none : base + 0 ≡ base = omega arith in
      rw e
      (record {
        far = begin_unmet gs n;
        full = λ g p q. (s, mark-s ∙ omega arith);
        level = rw none (record { room = begin-room; spread = begin-spread; done = λ x p q m d v l e. absurd (omega arith); start = mark-s });
      })

-- the ring that is marked last is left next
module _ {f : Floor} {s base k from : ℕ} {S : State} (L : Level f s base k from S) where
  -- no cell has the next mark yet
  advance : Spread f s base (k + 1) S.n S
  advance =
      let G = L.spread in record {
        top = λ x. omega (arith, G.top x);
        walks = G.walks;
        costs = G.costs;
        listed = λ x p. let l = G.listed x p in (l.0, l.1, l.2, λ e. absurd (omega (arith, G.top x)));
        early = G.early;
        late = λ i p q. absurd (omega arith);
        upto = omega arith;
      }

  module _ {S' : State} (W : Swept f base k from S.n S S') where
    K : Kept base S S'
    K = W.grew.kept

    next_spread : Spread f s base (k + 1) S.n S'
    next_spread = W.grew.spread s S.n advance

    -- a mark up to k was there before
    was : (x : ℕ) → In base S'.mark x → mark_of S' x ≤ k → In base S.mark x
    was x p q =
        let l = next_spread.listed x p in
        go l.0 l.1 l.2 (dec_lt l.0 S.n)
      where
        go : (i : ℕ) → i < S'.n → cell_of S' i ≡ x → Dec (i < S.n) → In base S.mark x
        go i a e (yes b) = rw (sym (K.cells i b) ∙ e) at (L.spread.early i b)
        go i a e (no b) = absurd (omega (arith, next_spread.late i a (omega arith), ap (mark_of S') e))

    next_done : Done f base (k + 1) S'
    next_done x p q m d v hm e = split (dec_lt (mark_of S x) k)
      where
        px : In base S.mark x
        px = was x p (omega arith)

        same : mark_of S' x ≡ mark_of S x
        same = K.marks x px

        split : Dec (mark_of S x < k) → In base S'.mark d × (mark_of S' d ≤ mark_of S' x + 1)
        split (yes b) =
            let o = L.done x px b m d v hm e in
            (kept_in K d o.0, omega (arith, K.marks d o.0, same))
        split (no b) =
            let l = L.spread.listed x px in
            let t : mark_of S x ≡ k = omega (arith, same) in
            let o = W.outs l.0 (l.3 t) l.1 m hm d v (rw l.2 e) in
            (o, omega (arith, next_spread.top d, same))

    level_next : Level f s base (k + 1) S.n S'
    level_next = record {
      room = W.grew.room;
      spread = next_spread;
      done = next_done;
      start = K.marks s (omega arith) ∙ L.start;
    }

    -- where nothing was added no cell has the next mark
    level-empty : S'.n ≡ S.n → (x : ℕ) → base ≤ k → mark_of S' x ≤ k
    level-empty e x b = by (dec_le (mark_of S' x) k)
      where
        by : Dec (mark_of S' x ≤ k) → mark_of S' x ≤ k
        by (yes h) = h
        by (no h) =
            let t : mark_of S' x ≡ k + 1 = omega (arith, next_spread.top x) in
            let l = next_spread.listed x (omega arith) in
            absurd (omega (arith, l.3 t))

    -- a cell that had no mark has the next one or none
    level-goal : (x : ℕ) → mark_of S x < base → In base S'.mark x → mark_of S' x ≡ k + 1
    level-goal x far p = by (dec_le (mark_of S' x) k)
      where
        by : Dec (mark_of S' x ≤ k) → mark_of S' x ≡ k + 1
        by (yes h) = absurd (omega (arith, far, was x p h))
        by (no h) = omega (arith, next_spread.top x)

    full_next : S.n < S'.n → Full base k S → Full base (k + 1) S'
    full_next l F g p q = by (dec_le g k)
      where
        by : Dec (g ≤ k) → (x : ℕ) × (mark_of S' x ≡ g)
        by (yes h) = let x = F g p h in (x.0, K.marks x.0 (omega arith) ∙ x.1)
        by (no h) = (cell_of S' S.n, next_spread.late S.n l (omega arith) ∙ omega arith)

  -- a walk of n moves from a cell of ring j leads to a ring of at most j + n
  reach : {a x c n : ℕ} → Walk (net f) Any a x c n → (j : ℕ) → In base S.mark a → mark_of S a ≤ base + j → base + j + n ≤ k
      → In base S.mark x × (mark_of S x ≤ base + j + n)
  reach (stop t) j i l h = (i, omega arith)
  reach (move {a = a} {b = b} t e w) j i l h =
      let (m, lm, step) = price-step f L.room.sized a b (stretched_some fineness 1 (price f a b) (omega arith)) in
      let o = L.done a i (omega arith) m b (price f a b) lm step in
      let r = reach w (j + 1) o.0 (omega arith) (omega arith) in
      (r.0, omega arith)

  level-marked : (r : ℕ) → k ≡ base + r → Marked f s base r S
  level-marked r e = record {
    room = L.room;
    top = λ x. omega (arith, L.spread.top x);
    walks = L.spread.walks;
    costs = L.spread.costs;
    fewest = λ x c n w l.
        let t = reach w 0 (omega arith) (omega arith) (omega arith) in
        (t.0, omega arith);
    listed = λ x p. let l = L.spread.listed x p in (l.0, l.1, l.2);
    early = L.spread.early;
  }

module _ {f : Floor} {s : ℕ} {gs : List ℕ} {base r from : ℕ} {S : State} (R : Ringed f s gs base r from S) where
  pub ringed_segment : r < deepest → base ≤ last_base → Segment base from S.n (base + r) S
  ringed_segment h room =
      let G = R.level.spread in
      record { order = G.upto; end = refl; ring = record { first = omega arith; last = omega arith; room = room }; marked = λ j a b. G.late j b a }

  -- the answers: the depth is reached; a goal is in the ring found last; the ring found last is empty
  pub ringed_framed : {depth : ℕ} → r ≡ depth → 1 ≤ depth → Framed f s gs depth base depth S
  ringed_framed d p =
      rw (← d)
      (record {
        marked = level-marked R.level r refl;
        within = omega arith;
        some = omega arith;
        ends = inl refl;
        nearer = λ g m i. absurd (omega (arith, R.far g m));
        full = R.full;
      })

  module _ {S' : State} (W : Swept f base (base + r) from S.n S S') where
    more : base + r + 1 ≡ base + (r + 1)
    more = omega arith

    L' : Level f s base (base + (r + 1)) S.n S'
    L' = rw more at (level_next R.level W)

    pub next_blocked : {depth : ℕ} → r < depth → S'.n ≡ S.n → Blocked f s gs depth base r S'
    next_blocked short q =
        let none : (x : ℕ) → mark_of S' x ≤ base + r = λ x. level-empty R.level W q x (omega arith) in record {
          marked = level-marked L' (r + 1) refl;
          short = short;
          empty = λ x. omega (arith, none x);
          far = λ g m. away g m (dec_le base (mark_of S' g)) (none g);
        }
      where
        away : (g : ℕ) → member g gs ≡ true → Dec (base ≤ mark_of S' g) → mark_of S' g ≤ base + r → mark_of S' g < base
        away g m (yes p) l = absurd (omega (arith, level-goal R.level W g (R.far g m) p))
        away g m (no p) l = omega arith

    -- the next ring is not empty
    module _ (some : S'.n ≡ S.n → ⊥) where
      full : Full base (base + (r + 1)) S'
      full = rw more at (full_next R.level W (omega arith) R.full)

      -- whether a goal is in a ring that is marked, as the code is told it
      module _ {met : Bool} (told : met ≡ any (λ g. leb base (mark_of S' g)) gs) where
        pub ringed_next : met ≡ false → Ringed f s gs base (r + 1) S.n S'
        ringed_next n = record { far = λ g m. leb-false _ _ (any_fails _ _ (sym told ∙ n) g m); full = full; level = L' }

        pub next_framed : {depth : ℕ} → r < depth → met ≡ true → Framed f s gs depth base (r + 1) S'
        next_framed short y =
            let (g, m, t) = any_some _ _ (sym told ∙ y) in
            let on : (x : ℕ) → member x gs ≡ true → In base S'.mark x → mark_of S' x ≡ base + (r + 1) =
            λ x n i. level-goal R.level W x (R.far x n) i ∙ omega arith in record {
              marked = level-marked L' (r + 1) refl;
              within = omega arith;
              some = omega arith;
              ends = inr (g, m, on g m (leb-true _ _ t));
              nearer = on;
              full = full;
            }
