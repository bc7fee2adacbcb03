-- One cell more gets a mark, or one cost is lowered, or a cost is noted: what was marked stays, and the walk of the cell that is reached is
-- one move longer than that of the cell it is reached from.
-- Assumes nothing.
use Rattle.std.specs.Prelude.{None}
use mathlib.Core.Path.{◌≡◌, refl, ap, sym, ◌∙◌}
use mathlib.Core.List.{List}
use mathlib.Core.Bool.{true}
use mathlib.Core.Logic.{◌⊎◌, inl, inr, ⊎_elim}
use Prim.Native.Nat.{ℕ, suc, ◌+◌, ◌-◌, ◌*◌, ◌≤◌, ◌<◌}
use native.Mathlib.Omega.{arith}
use native.Mathlib.Decide.{dec_le, dec_lt}
use borrow.Author.Count.{below_more}
use lib.ListN.{length, get_or, set, length-set}
use lib.Seq.{get_or-set_same, get_or-set_other}
use Rattle.learning.specs.Walk.{Walk, move, Leads}
use Rattle.learning.specs.Stretch.{stretched, stretched-move}
use Rattle.learning.proofs.Walks.{widen, restate}
use Rattle.model.specs.Floor.{Floor, Sized, free, dearest_price, price}
use Rattle.model.specs.Grounds.{price_same}
use Rattle.model.specs.Lookahead.{fineness, fine}
use Rattle.floor.specs.declared.Spot.{Spot}
use Rattle.floor.specs.declared.Step.{Step}
use Rattle.floor.specs.Moves.{to, step_of}
use Rattle.floor.proofs.Steps.{Stepped, stepped, wall≢to, same_to}
use Rattle.lookahead.specs.Marks.{net, Finely, State, state, entered, mark_of, cost_at, cell_of, note_at, In, Sizes, Room, Spread, Kept, Grew, Reached, Leaving, Extended, Left, Open, Segment, Swept, Out}
use Rattle.lookahead.proofs.Blanks.{blanks-pos, blanks-set}
use Rattle.lookahead.proofs.Stores.{by_store}

-- a move that leads to the cell d at the price v: the step, and what it says
pub record Moved (f : Floor) (x m d v : ℕ) : Type 0 where
  pub step : step_of f x m ≡ to d v
  pub at : Stepped f x m d v

-- as the code is told it
pub moved : {f : Floor} {x m : ℕ} {s : Step} → Sized f → (F : Finely f x m s) → Moved f x m s.cell F.price
moved {f} {x} {m} {s} z F = record { step = F.step; at = stepped f z x m s.cell F.price F.step }

-- the move back, its price, and as a fine one
pub price-back : {f : Floor} {c m d v : ℕ} → Moved f c m d v → (1 ≤ v) × (price f d c ≡ v)
price-back {f} {c} {d = d} M = (omega arith, price_same f d c ∙ M.at.price)

pub edge_back : {f : Floor} {c m d v : ℕ} → Moved f c m d v → (net f).Edge d c (fine v)
edge_back {v = v} M =
    let (some, e) = price-back M in
    (omega arith, ap (stretched fineness 1) e ∙ stretched-move fineness 1 v some)

-- the state with the mark k + 1 and the cost u at d
abbrev pub grown : (k d u : ℕ) → State → State
grown k d u S = state (set S.mark d (k + 1)) (set S.cost d u) (entered S.list S.n d) (S.n + 1)

-- the cells and notes of the list after one more is entered
module _ (list : List ℕ) (n d : ℕ) (size : length list ≡ 8192) (space : n < 4096) where
  first_in_list : n < length list
  first_in_list = omega (arith, space)

  second_in_list : n + 4096 < length (set list n d)
  second_in_list = omega (arith, space, length-set list n d)

  pub entered-size : length (entered list n d) ≡ 8192
  entered-size = simp length-set size

  pub entered-cell : (i : ℕ) → i < n → get_or (entered list n d) i 0 ≡ get_or list i 0
  entered-cell i p = get_or-set_other (set list n d) (n + 4096) i 65535 0 (λ e. omega arith) ∙ get_or-set_other list n i d 0 (λ e. omega arith)

  pub entered-note : (i : ℕ) → i < n → get_or (entered list n d) (i + 4096) 0 ≡ get_or list (i + 4096) 0
  entered-note i p = get_or-set_other (set list n d) (n + 4096) (i + 4096) 65535 0 (λ e. omega arith) ∙ get_or-set_other list n (i + 4096) d 0 (λ e. omega arith)

  pub entered_new : get_or (entered list n d) n 0 ≡ d
  entered_new = get_or-set_other (set list n d) (n + 4096) n 65535 0 (λ e. omega arith) ∙ get_or-set_same list n d 0 first_in_list

  pub entered-blank : get_or (entered list n d) (n + 4096) 0 ≡ 65535
  entered-blank = get_or-set_same (set list n d) (n + 4096) 65535 0 second_in_list

-- a marked cell stays marked
pub kept_in : {base : ℕ} {S S' : State} → Kept base S S' → (x : ℕ) → In base S.mark x → In base S'.mark x
kept_in K x p = rw (K.marks x p) p

-- no state grew in itself; and one growth after another
grew_refl : {f : Floor} {base k : ℕ} {S : State} → Room f base S → Grew f base k S S
grew_refl R = record { room = R; kept = record { marks = λ x p. refl; costs = λ x p. omega arith; cells = λ i p. refl; grows = omega arith }; spread = λ s to G. G }

kept_trans : {base : ℕ} {A B C : State} → Kept base A B → Kept base B C → Kept base A C
kept_trans p q = record {
  marks = λ x l. q.marks x (kept_in p x l) ∙ p.marks x l;
  costs = λ x l. omega (arith, q.costs x (kept_in p x l), p.costs x l);
  cells = λ i l. q.cells i (omega arith) ∙ p.cells i l;
  grows = omega arith;
}

grew_trans : {f : Floor} {base k : ℕ} {A B C : State} → Grew f base k A B → Grew f base k B C → Grew f base k A C
grew_trans p q = record { room = q.room; kept = kept_trans p.kept q.kept; spread = λ s to G. q.spread s to (p.spread s to G) }

-- the cell d is reached by the move m from c, of mark k and cost w
module _
    {f : Floor} {base k c m d v w : ℕ} {spot : Spot} {S : State} (R : Room f base S) (C : Leaving f base c spot k w S) (M : Moved f c m d v)
  where
    abbrev u : ℕ
    u = w + fine v

    inside : d < length S.mark
    inside = omega (arith, R.sizes.marks)

    inside-cost : d < length S.cost
    inside-cost = omega (arith, R.sizes.costs)

    from_in : In base S.mark c
    from_in = omega arith

    -- d has no mark yet
    module _ (blank : mark_of S d < base) where
      abbrev mark' : List ℕ
      mark' = set S.mark d (k + 1)

      space : S.n < 4096
      space = omega (arith, R.sizes.count, blanks-pos base S.mark d inside blank)

      -- what had a mark has it still
      other : (x : ℕ) → In base S.mark x → x ≡ d → ⊥
      other x p e = omega (arith, ap (mark_of S) e)

      marks-kept : (x : ℕ) → In base S.mark x → get_or mark' x 0 ≡ mark_of S x
      marks-kept x p = get_or-set_other S.mark d x (k + 1) 0 (other x p)

      costs-kept : (x : ℕ) → In base S.mark x → get_or (set S.cost d u) x 0 ≡ cost_at S x
      costs-kept x p = get_or-set_other S.cost d x u 0 (other x p)

      cells-kept : (i : ℕ) → i < S.n → cell_of (grown k d u S) i ≡ cell_of S i
      cells-kept = entered-cell S.list S.n d R.sizes.cells space

      mark_new : get_or mark' d 0 ≡ k + 1
      mark_new = get_or-set_same S.mark d (k + 1) 0 inside

      cost_new : get_or (set S.cost d u) d 0 ≡ u
      cost_new = get_or-set_same S.cost d u 0 inside-cost

      cell_new : cell_of (grown k d u S) S.n ≡ d
      cell_new = entered_new S.list S.n d R.sizes.cells space

      stays_in : (y : ℕ) → In base S.mark y → In base mark' y
      stays_in y p = rw (marks-kept y p) p

      grown-sizes : Sizes base (grown k d u S)
      grown-sizes = record {
        marks = simp length-set R.sizes.marks;
        costs = simp length-set R.sizes.costs;
        cells = entered-size S.list S.n d R.sizes.cells space;
        count = omega (arith, R.sizes.count, blanks-set base S.mark d (k + 1) inside blank (omega arith));
      }

      grown-kept : Kept base S (grown k d u S)
      grown-kept = record { marks = marks-kept; costs = λ x p. omega (arith, costs-kept x p); cells = cells-kept; grows = omega arith }

      grown-cheap : (x : ℕ) → In base mark' x → cost_at (grown k d u S) x ≤ fine dearest_price * (get_or mark' x 0 - base)
      grown-cheap x =
          by_store (λ y. base ≤ y → cost_at (grown k d u S) x ≤ fine dearest_price * (y - base)) S.mark d (k + 1) x inside
          (λ e p. rw (e, cost_new) (omega (arith, R.cheap c from_in)))
          (λ n p. rw (costs-kept x p) (R.cheap x p))

      grown-free : (x : ℕ) → In base mark' x → free f x ≡ true
      grown-free x = by_store (λ y. base ≤ y → free f x ≡ true) S.mark d (k + 1) x inside (λ e p. rw e M.at.free) (λ n p. R.free x p)

      -- the new cell's moves were not followed; those of the others lead where they led
      grown-notes : (i : ℕ) → i < S.n + 1 → (j x y : ℕ) → j < 8 → step_of f (cell_of (grown k d u S) i) j ≡ to x y
          → (note_at (grown k d u S).list i ≡ 65535) ⊎ (In base mark' x × (cost_at (grown k d u S) x ≤ note_at (grown k d u S).list i + fine y))
      grown-notes i l j x y lj e = by (dec_lt i S.n)
        where
          by : Dec (i < S.n) → (note_at (grown k d u S).list i ≡ 65535) ⊎ (In base mark' x × (cost_at (grown k d u S) x ≤ note_at (grown k d u S).list i + fine y))
          by (yes p) =
              rw (entered-note S.list S.n d R.sizes.cells space i p)
              (⊎_elim inl (λ q. inr (stays_in x q.0, omega (arith, costs-kept x q.0)))
              (R.notes i p j x y lj (rw (cells-kept i p) at e)))
          by (no p) = let q : i ≡ S.n = omega arith in inl (rw q (entered-blank S.list S.n d R.sizes.cells space))

      grown-room : Room f base (grown k d u S)
      grown-room = record { sized = R.sized; sizes = grown-sizes; free = grown-free; cheap = grown-cheap; notes = grown-notes }

      -- for each s and each start of the ring
      module _ (s to : ℕ) (G : Spread f s base (k + 1) to S) where
        grown-top : (x : ℕ) → get_or mark' x 0 ≤ k + 1
        grown-top x = by_store (λ y. y ≤ k + 1) S.mark d (k + 1) x inside (λ e. omega arith) (λ n. G.top x)

        grown-walks : (x : ℕ) → In base mark' x → (a : ℕ) × Walk (net f) (In base mark') x s a (get_or mark' x 0 - base)
        grown-walks x =
            by_store (λ y. base ≤ y → (a : ℕ) × Walk (net f) (In base mark') x s a (y - base)) S.mark d (k + 1) x inside
            (λ e p. let g = G.walks c from_in in
            rw e (fine v + g.0, restate refl (omega arith) (move (rw mark_new (omega arith)) (edge_back M) (widen stays_in g.1))))
            (λ n p. let g = G.walks x p in (g.0, widen stays_in g.1))

        grown-costs : (x : ℕ) → In base mark' x → Leads (net f) (In base mark') x s (cost_at (grown k d u S) x)
        grown-costs x =
            by_store (λ y. base ≤ y → Leads (net f) (In base mark') x s (cost_at (grown k d u S) x)) S.mark d (k + 1) x inside
            (λ e p. let g = G.costs c from_in in
            rw (e, cost_new) (suc g.0, restate (omega arith) refl (move (rw mark_new (omega arith)) (edge_back M) (widen stays_in g.1))))
            (λ n p. let g = G.costs x p in rw (costs-kept x p) (g.0, widen stays_in g.1))

        grown-listed : (x : ℕ) → In base mark' x
            → (i : ℕ) × (i < S.n + 1) × (cell_of (grown k d u S) i ≡ x) × (get_or mark' x 0 ≡ k + 1 → to ≤ i)
        grown-listed x =
            by_store (λ y. base ≤ y → (i : ℕ) × (i < S.n + 1) × (cell_of (grown k d u S) i ≡ x) × (y ≡ k + 1 → to ≤ i)) S.mark d (k + 1) x inside
            (λ e p. (S.n, omega arith, cell_new ∙ sym e, λ q. G.upto))
            (λ n p. let l = G.listed x p in (l.0, omega arith, cells-kept l.0 l.1 ∙ l.2, l.3))

        -- the cells of the list, the new one last
        by_cell : (P : ℕ → Type 0) (i : ℕ) → i < S.n + 1 → P d → (i < S.n → P (cell_of S i)) → P (cell_of (grown k d u S) i)
        by_cell P i l new old = by (dec_lt i S.n)
          where
            by : Dec (i < S.n) → P (cell_of (grown k d u S) i)
            by (yes p) = rw (cells-kept i p) (old p)
            by (no p) = let q : i ≡ S.n = omega arith in rw (q, cell_new) new

        grown-spread : Spread f s base (k + 1) to (grown k d u S)
        grown-spread = record {
          top = grown-top;
          walks = grown-walks;
          costs = grown-costs;
          listed = grown-listed;
          early = λ i p. by_cell (λ y. base ≤ get_or mark' y 0) i p (rw mark_new (omega arith)) (λ l. stays_in (cell_of S i) (G.early i l));
          late = λ i p q. by_cell (λ y. get_or mark' y 0 ≡ k + 1) i p mark_new (λ l. marks-kept (cell_of S i) (G.early i l) ∙ G.late i l q);
          upto = omega arith;
        }

      grown-grew : Grew f base k S (grown k d u S)
      grown-grew = record { room = grown-room; kept = grown-kept; spread = grown-spread }

      grown_out : In base mark' d × (cost_at (grown k d u S) d ≤ u)
      grown_out = (rw mark_new (omega arith), omega (arith, cost_new))

      grown-stays : cost_at (grown k d u S) c ≡ w
      grown-stays = costs-kept c from_in ∙ C.costs

    -- d has one, and its cost is lowered
    module _ (to_in : In base S.mark d) (less : w + fine v < cost_at S d) where
      abbrev L : State
      L = state S.mark (set S.cost d u) S.list S.n

      falls : (x : ℕ) → cost_at L x ≤ cost_at S x
      falls x = by_store (λ y. y ≤ cost_at S x) S.cost d u x inside-cost (λ e. rw e (omega arith)) (λ n. omega arith)

      lower-room : Room f base L
      lower-room = record {
        sized = R.sized;
        sizes = record { marks = R.sizes.marks; costs = simp length-set R.sizes.costs; cells = R.sizes.cells; count = R.sizes.count };
        free = R.free;
        cheap = λ x p. omega (arith, falls x, R.cheap x p);
        notes = λ i l j x y lj e. ⊎_elim inl (λ q. inr (q.0, omega (arith, falls x))) (R.notes i l j x y lj e);
      }

      lower-costs : (s to : ℕ) → Spread f s base (k + 1) to S → (x : ℕ) → In base S.mark x → Leads (net f) (In base S.mark) x s (cost_at L x)
      lower-costs s to G x =
          by_store (λ y. In base S.mark x → Leads (net f) (In base S.mark) x s y) S.cost d u x inside-cost
          (λ e p. let g = G.costs c from_in in rw e (suc g.0, restate (omega arith) refl (move to_in (edge_back M) g.1)))
          (λ n p. G.costs x p)

      lower-grew : Grew f base k S L
      lower-grew = record {
        room = lower-room;
        kept = record { marks = λ x p. refl; costs = λ x p. falls x; cells = λ i p. refl; grows = omega arith };
        spread = λ s to G. record { top = G.top; walks = G.walks; costs = lower-costs s to G; listed = G.listed; early = G.early; late = G.late; upto = G.upto };
      }

      lower_out : cost_at L d ≤ u
      lower_out = omega (arith, get_or-set_same S.cost d u 0 inside-cost)

      lower-stays : cost_at L c ≡ w
      lower-stays = by_store (λ y. y ≡ w) S.cost d u c inside-cost (λ e. absurd (omega (arith, ap (cost_at S) e))) (λ n. C.costs)

    -- the cell moved into is reached at what the move adds
    module _ {S' : State} {a : ℕ} (adds : a ≡ fine v) (reached : Reached base d (k + 1) (w + a) S S') where
      E : Reached base d (k + 1) (w + fine v) S S'
      E = rw adds at reached

      -- what the move gives in a state T, where it leads
      extends : {T : State} → Grew f base k S T → In base T.mark d × (cost_at T d ≤ w + fine v) → cost_at T c ≡ w → Extended f base k c m w S T
      extends {T} G o e = record {
        grew = G;
        out = λ x y q. let t = same_to (sym M.step ∙ q) in (rw t.0 at o.0, omega (arith, ap (cost_at T) t.0));
        stays = e;
      }

      by_cost : In base S.mark d → Dec (w + fine v < cost_at S d) → Extended f base k c m w S S'
      by_cost i (yes l) = rw (E.low i l) (extends (lower-grew i l) (i, lower_out i l) (lower-stays i l))
      by_cost i (no n) =
          let l : cost_at S d ≤ w + fine v = omega arith in
          rw (E.old i l) (extends (grew_refl R) (i, l) C.costs)

      by_mark : Dec (base ≤ mark_of S d) → Extended f base k c m w S S'
      by_mark (yes i) = by_cost i (dec_lt (w + fine v) (cost_at S d))
      by_mark (no n) =
          let b : mark_of S d < base = omega arith in
          rw (E.new b) (extends (grown-grew b) (grown_out b) (grown-stays b))

      pub extended_to : Extended f base k c m w S S'
      extended_to = by_mark (dec_le base (mark_of S d))

-- no cell is moved into
pub extended_wall : {f : Floor} {base k c m w : ℕ} {S : State} → Room f base S → cost_at S c ≡ w → step_of f c m ≡ None → Extended f base k c m w S S
extended_wall R own e = record { grew = grew_refl R; out = λ d v q. absurd (wall≢to d v (sym e ∙ q)); stays = own }

-- no move yet, and one move more
pub left_none : {f : Floor} {base k c w : ℕ} {S : State} → Room f base S → cost_at S c ≡ w → Left f base k c 0 w S S
left_none R own = record { grew = grew_refl R; out = λ i l d v e. absurd (omega arith); stays = own }

pub left_more : {f : Floor} {base k c m w : ℕ} {A B C : State} → Left f base k c m w A B → Extended f base k c m w B C → Left f base k c (m + 1) w A C
left_more p q = record {
  grew = grew_trans p.grew q.grew;
  out = below_more _ _ (λ i l d v e. let o = p.out i l d v e in (kept_in q.grew.kept d o.0, omega (arith, q.grew.kept.costs d o.0))) q.out;
  stays = q.stays;
}

-- the cost at which a cell was left is noted beside it in the list
module _ {f : Floor} {base k c w : ℕ} (i : ℕ) {A B : State} (L : Left f base k c 8 w A B) (l : i < B.n) (here : cell_of B i ≡ c) where
  abbrev N : State
  N = state B.mark B.cost (set B.list (i + 4096) w) B.n

  R : Room f base B
  R = L.grew.room

  short : B.n ≤ 4096
  short = omega (arith, R.sizes.count)

  cells : (j : ℕ) → j < B.n → cell_of N j ≡ cell_of B j
  cells j p = get_or-set_other B.list (i + 4096) j w 0 (λ e. omega (arith, short))

  noted-notes : (j : ℕ) → j < B.n → (m d v : ℕ) → m < 8 → step_of f (cell_of N j) m ≡ to d v
      → (note_at N.list j ≡ 65535) ⊎ (In base B.mark d × (cost_at B d ≤ note_at N.list j + fine v))
  noted-notes j p m d v lm e =
      let s = rw (cells j p) at e in
      by_store (λ y. (y ≡ 65535) ⊎ (In base B.mark d × (cost_at B d ≤ y + fine v))) B.list (i + 4096) w (j + 4096) (omega (arith, R.sizes.cells, short))
      (λ q. let t : j ≡ i = omega arith in inr (L.out m lm d v (rw (ap (cell_of B) t ∙ here) at s)))
      (λ q. R.notes j p m d v lm s)

  noted-grew : Grew f base k B N
  noted-grew = record {
    room = record {
      sized = R.sized;
      sizes = record { marks = R.sizes.marks; costs = R.sizes.costs; cells = simp length-set R.sizes.cells; count = R.sizes.count };
      free = R.free;
      cheap = R.cheap;
      notes = noted-notes;
    };
    kept = record { marks = λ x p. refl; costs = λ x p. omega arith; cells = cells; grows = omega arith };
    spread = λ s to G. record {
      top = G.top;
      walks = G.walks;
      costs = G.costs;
      listed = λ x p. let q = G.listed x p in (q.0, q.1, cells q.0 q.1 ∙ q.2, q.3);
      early = λ j p. rw (cells j p) (G.early j p);
      late = λ j p q. rw (cells j p) (G.late j p q);
      upto = G.upto;
    };
  }

-- the cell at a place of the segment is the one that stood there at the start
pub swept_open : {f : Floor} {base k from to i c : ℕ} {A B : State} → Room f base A → Segment base from to k A → Swept f base k from i A B
    → from ≤ i → i < to → c ≡ cell_of B i → Open f base c k (cost_at B c) B
swept_open {base = base} {k = k} {i = i} {c = c} {A = A} R G W l h e =
    let same = sym (W.grew.kept.cells i (omega (arith, G.end))) ∙ sym e in
    let own : mark_of A c ≡ k = rw same at (G.marked i l h) in
    let p : In base A.mark c = omega (arith, G.ring.first) in
    record { free = R.free c p; ring = G.ring; marked = W.grew.kept.marks c p ∙ own; costs = refl }

-- no cell yet, and one cell more
pub swept_none : {f : Floor} {base k from : ℕ} {S : State} → Room f base S → Swept f base k from from S S
swept_none R = record { grew = grew_refl R; outs = λ j l q. absurd (omega arith) }

pub swept_more : {f : Floor} {base k from i c w : ℕ} {A B C : State} → i < A.n → c ≡ cell_of B i
    → Swept f base k from i A B → Left f base k c 8 w B C → Swept f base k from (i + 1) A (state C.mark C.cost (set C.list (i + 4096) w) C.n)
swept_more {f} {base} {from = from} {i = i} {c = c} {A = A} {C = C} l e p q =
    let n : i < C.n = omega arith in
    let here : cell_of C i ≡ c = q.grew.kept.cells i (omega arith) ∙ sym e in
    record {
      grew = grew_trans (grew_trans p.grew q.grew) (noted-grew i q n here);
      outs = λ j r t. below_more (λ y. from ≤ y → Out f base C (cell_of A y) 8) i
          (λ y ly lf m lm d v s. kept_in q.grew.kept d (p.outs y lf ly m lm d v s))
          (λ lf. rw (sym (p.grew.kept.cells i l) ∙ sym e) (λ m lm d v s. (q.out m lm d v s).0)) j t r;
    }
