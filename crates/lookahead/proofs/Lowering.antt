-- Costs that are lowered along moves: they stay the costs of walks, and where no move lowers any, each is the least.
-- Assumes nothing.
use Rattle.std.specs.Prelude.{None}
use mathlib.Core.Path.{◌≡◌, refl, ap, sym, ◌∙◌}
use mathlib.Core.List.{List, [], ◌∷◌}
use mathlib.Core.Bool.{Bool, true, false, true≢false}
use mathlib.Core.Logic.{inl, inr, ⊎_elim}
use Prim.Native.Nat.{ℕ, zero, suc, ◌+◌, ◌≤◌, ◌<◌}
use native.Mathlib.Omega.{arith}
use native.Mathlib.Decide.{dec_lt}
use borrow.Author.Count.{below_more}
use lib.ListN.{length, get_or, set, length-set}
use lib.Seq.{get_or-set_same, get_or-set_other}
use Rattle.learning.specs.Walk.{Walk, stop, move, Least, Leads}
use Rattle.learning.specs.Stretch.{stretched-move, stretched_some}
use Rattle.learning.proofs.Walks.{restate, first_in}
use Rattle.model.specs.Floor.{Floor, Sized, least_price, price}
use Rattle.model.specs.Lookahead.{fineness, fine}
use Rattle.model.specs.Grounds.{price_same}
use Rattle.floor.specs.Moves.{step_of}
use Rattle.floor.proofs.Steps.{stepped, price-step, wall≢to, same_to}
use Rattle.lookahead.specs.Marks.{net, note_at, In}
use Rattle.lookahead.specs.Costs.{total, at, dearest_fine, Costs, Walked, Under, Followed, Eased, Easing, Lowered, Lower, Listing, Noted, Topmost, Again, Passed, Relaxed}
use Rattle.lookahead.proofs.Stores.{by_store, set_self}
use Rattle.lookahead.proofs.Grow.{Moved, edge_back}

-- the sum falls with an entry
pub total-set : (l : List ℕ) (i v : ℕ) → v < get_or l i 0 → total (set l i v) < total l
unfolding total
total-set [] i v p = absurd (omega arith)
total-set (x ∷ xs) zero v p = omega arith
total-set (x ∷ xs) (suc i) v p = omega (arith, total-set xs i v p)

-- a cost is noted beside the list's i-th cell
module _ {base : ℕ} {mark list : List ℕ} {n : ℕ} (i note : ℕ) (L : Listing base mark list n) (l : i < n) where
  cell-kept : (j : ℕ) → j < n → get_or (set list (i + 4096) note) j 0 ≡ get_or list j 0
  cell-kept j h = get_or-set_other list (i + 4096) j note 0 (λ e. omega arith)

  inside-list : i + 4096 < length list
  inside-list = omega arith

  note-listing : Listing base mark (set list (i + 4096) note) n
  note-listing = record {
    room = simp length-set L.room;
    fits = L.fits;
    early = λ j h. rw (cell-kept j h) (L.early j h);
    listed = λ x h. let k = L.listed x h in (k.0, k.1, cell-kept k.0 k.1 ∙ k.2);
  }

  note-noted : (f : Floor) (A B : List ℕ) → ((x : ℕ) → at B x ≤ at A x) → Noted f base mark list n A → Followed f base mark (get_or list i 0) 8 note B
      → Noted f base mark (set list (i + 4096) note) n B
  note-noted f A B drop N F j h =
      rw (cell-kept j h)
      (by_store (λ u. Followed f base mark (get_or list j 0) 8 u B) list (i + 4096) note (j + 4096) inside-list
      (λ e. let q : j ≡ i = omega arith in rw q F)
      (λ e m k d v s t. omega (arith, N j h m k d v s t, drop d)))

  note-calm : (cost : List ℕ) → ((j : ℕ) → j < i → note_at list j ≤ at cost (get_or list j 0)) → note ≤ at cost (get_or list i 0)
      → (j : ℕ) → j < i + 1 → note_at (set list (i + 4096) note) j ≤ at cost (get_or (set list (i + 4096) note) j 0)
  note-calm cost p q j h =
      rw (cell-kept j (omega arith))
      (by_store (λ u. u ≤ at cost (get_or list j 0)) list (i + 4096) note (j + 4096) inside-list
      (λ e. let t : j ≡ i = omega arith in rw t q)
      (λ e. p j (omega arith)))

-- where no move of the window lowers a cost, each is the least
module _
    (f : Floor) (z : Sized f) (base : ℕ) (mark cost : List ℕ) (s : ℕ) (start : at cost s ≡ 0)
    (tight : (x : ℕ) → In base mark x → Followed f base mark x 8 (at cost x) cost)
  where
    low : {x y c n : ℕ} → Walk (net f) (In base mark) x y c n → at cost x ≤ c + at cost y
    low (stop t) = omega arith
    low (move {a = a} {b = b} t e w) =
        let some = stretched_some fineness 1 (price f a b) (omega arith) in
        let (m, l, step) = price-step f z b a (omega (arith, price_same f a b)) in
        omega (arith, low w, tight b (first_in w) m l a (price f b a) step t, stretched-move fineness 1 (price f a b) some, price_same f a b)

    least : Walked f s base mark cost → (x : ℕ) → In base mark x → Least (Leads (net f) (In base mark) x s) (at cost x)
    least W x i = record { met = W x i; low = λ k v. omega (arith, low v.1, start) }

-- passes one after another over the list's n cells, from the costs A to the costs B
pub record Falling (f : Floor) (base : ℕ) (mark : List ℕ) (n high : ℕ) (A B list : List ℕ) : Type 0 where
  -- they are still those of walks, none has risen, and none is above the highest
  pub costs : Costs f base mark B
  pub walked : (s : ℕ) → Walked f s base mark A → Walked f s base mark B
  pub drop : (x : ℕ) → at B x ≤ at A x
  pub top : Topmost base mark B high
  -- the list says at which cost each cell's moves were followed
  pub listing : Listing base mark list n
  pub noted : Noted f base mark list n B

module _ {f : Floor} {base : ℕ} {mark : List ℕ} where
  -- nothing is lowered
  pub lowered_none : {P : List ℕ → Type 0} {cost : List ℕ} {b : Bool} → Costs f base mark cost → P cost → Lowered f base mark P cost b cost b
  lowered_none C p = record { costs = C; walked = λ s W. W; drop = λ x. omega arith; down = omega arith; less = λ e. inl e; same = λ e. (e, refl); so = p }

  -- and then more is
  lowered_more : {P Q R : List ℕ → Type 0} {A B C : List ℕ} {a b c : Bool}
      → Lowered f base mark P A a B b → Lowered f base mark Q B b C c → (P B → Q C → R C) → Lowered f base mark R A a C c
  lowered_more p q r = record {
    costs = q.costs;
    walked = λ s W. q.walked s (p.walked s W);
    drop = λ x. omega (arith, p.drop x, q.drop x);
    down = omega arith;
    less = λ e. ⊎_elim (λ z. ⊎_elim inl (λ l. inr (omega arith)) (p.less z)) (λ l. inr (omega arith)) (q.less e);
    same = λ e.
        let y = q.same e in
        let x = p.same y.0 in
        (x.0, y.1 ∙ x.1);
    so = r p.so q.so;
  }

  -- a pass that lowered something lowers the sum
  pub turned : {P : List ℕ → Type 0} {A B : List ℕ} {b : Bool} → Lowered f base mark P A false B b → b ≡ true → total B < total A
  turned p e = ⊎_elim (λ z. absurd (true≢false (sym z))) (λ l. l) (p.less e)

  -- one move more from a cell; what was followed stays so while costs fall
  pub eased_more : (c m u : ℕ) {A B C : List ℕ} {a b e : Bool}
      → Lowered f base mark (Easing f base mark c m u) A a B b → Lowered f base mark (Eased f base mark c m u) B b C e
      → Lowered f base mark (Easing f base mark c (m + 1) u) A a C e
  eased_more c m u p q =
      lowered_more p q (λ t y. (y.0, below_more _ m (λ i l d v s h. omega (arith, t.1 i l d v s h, q.drop d)) y.1))

  -- a move that leads nowhere, or out of the window, lowers nothing
  pub eased_wall : (c m : ℕ) {w : ℕ} {cost : List ℕ} {b : Bool} → Costs f base mark cost → at cost c ≡ w → step_of f c m ≡ None
      → Lowered f base mark (Eased f base mark c m w) cost b cost b
  eased_wall c m C own e = lowered_none C (own, λ x u s i. absurd (wall≢to x u (sym e ∙ s)))

  module _ {cost : List ℕ} {c m d v w : ℕ} (C : Costs f base mark cost) (own : at cost c ≡ w) (M : Moved f c m d v) where
    pub eased_out : {b : Bool} → get_or mark d 0 < base → Lowered f base mark (Eased f base mark c m w) cost b cost b
    eased_out e = lowered_none C (own, λ x u s i. absurd (omega (arith, rw (sym (same_to (sym M.step ∙ s)).0) at i)))

    -- the cell moved into is lowered, or need not be
    module _ (from : In base mark c) (to : In base mark d) where
      abbrev u : ℕ
      u = w + fine v

      inside : d < length cost
      inside = omega arith

      -- what holds of the cell moved into
      at_cell : (A : List ℕ) → at A d ≤ w + fine v → Under f base mark c m w A
      at_cell A l x y s i = let q = same_to (sym M.step ∙ s) in omega (arith, ap (at A) q.0)

      lowered-set : {b : Bool} → u < at cost d → Lowered f base mark (Eased f base mark c m w) cost b (set cost d u) true
      lowered-set l = record {
        costs = record {
          sized = C.sized;
          marks = C.marks;
          costs = simp length-set C.costs;
          free = C.free;
          small = λ x. by_store (λ y. In base mark x → y ≤ dearest_fine) cost d u x inside (λ e i. omega (arith, C.small d to)) (λ n i. C.small x i);
        };
        walked = λ s W x. by_store (λ y. In base mark x → Leads (net f) (In base mark) x s y) cost d u x inside
            (λ e i. let k = W c from in rw e (suc k.0, restate (omega arith) refl (move to (edge_back M) k.1))) (λ n i. W x i);
        drop = λ x. by_store (λ y. y ≤ at cost x) cost d u x inside (λ e. rw e (omega arith)) (λ n. omega arith);
        down = omega (arith, total-set cost d u l);
        less = λ e. inr (total-set cost d u l);
        same = λ e. absurd (true≢false e);
        so = (
          by_store (λ y. y ≡ w) cost d u c inside (λ e. absurd (omega (arith, ap (at cost) e))) (λ n. own),
          at_cell (set cost d u) (omega (arith, get_or-set_same cost d u 0 inside)),
        );
      }

      -- by what the move adds
      pub eased : {a : ℕ} {b b' : Bool} {cost' : List ℕ} → a ≡ fine v → Lower d (w + a) b cost cost' b' → Lowered f base mark (Eased f base mark c m w) cost b cost' b'
      eased {b = b} {b' = b'} {cost' = cost'} adds lower = by (rw adds at lower) (dec_lt u (at cost d))
        where
          by : Lower d u b cost cost' b' → Dec (u < at cost d) → Lowered f base mark (Eased f base mark c m w) cost b cost' b'
          by L (yes l) = let e = L.new l in rw (e.0, e.1) (lowered-set l)
          by L (no n) =
              let l : at cost d ≤ u = omega arith in
              let e = L.old l in
              rw (e.0, e.1) (lowered_none C (own, at_cell cost l))

  -- the list's i-th cell c: its moves need not be followed, or they are
  module _ {i c : ℕ} {list : List ℕ} (here : c ≡ get_or list i 0) where
    pub again_not : {cost : List ℕ} {b : Bool} → Costs f base mark cost → note_at list i ≤ at cost c
        → Followed f base mark (get_or list i 0) 8 (note_at list i) cost → Again f base mark i cost list b cost list b
    again_not C l F = record { note = note_at list i; noted = sym (set_self list (i + 4096)); lowered = lowered_none C F; calm = λ z. rw (← here) l }

    pub again_eased : {A B : List ℕ} {a b : Bool} → Lowered f base mark (Easing f base mark c 8 (at A c)) A a B b
        → Again f base mark i A list a B (set list (i + 4096) (at A c)) b
    again_eased {A} p = record {
      note = at A c;
      noted = refl;
      lowered = lowered_more p (lowered_none {P = Easing f base mark c 8 (at A c)} p.costs p.so) (λ t u. rw (← here) u.1);
      calm = λ z. rw (← here) (omega arith);
    }

    -- where every cost is at most the least fine price above its own, following them lowers nothing
    pub again_topped : {high w : ℕ} {cost : List ℕ} {b : Bool} → Costs f base mark cost → Topmost base mark cost high
        → w ≡ at cost c → high ≤ w + fine least_price → Again f base mark i cost list b cost (set list (i + 4096) (at cost c)) b
    again_topped {cost = cost} C top e l = record {
      note = at cost c;
      noted = refl;
      lowered = lowered_none C (λ m h d v s t. omega (arith, top d t, (stepped f C.sized (get_or list i 0) m d v s).least));
      calm = λ y. rw (← here) (omega arith);
    }

  -- no cell of the list yet, and one more
  pub passed_none : {list : List ℕ} {n : ℕ} {cost : List ℕ} → Listing base mark list n → Costs f base mark cost → Noted f base mark list n cost
      → Passed f base mark n 0 cost cost list false
  passed_none L C N = record { listing = L; lowered = lowered_none C N; calm = λ e j h. absurd (omega arith) }

  pub passed_more : {n i : ℕ} {A B C list list' : List ℕ} {b e : Bool} → i < n
      → Passed f base mark n i A B list b → Again f base mark i B list b C list' e → Passed f base mark n (i + 1) A C list' e
  passed_more {i = i} {A = A} {B = B} {C = C} {list = list} l p q =
      rw q.noted
      (record {
        listing = note-listing i q.note p.listing l;
        lowered = lowered_more p.lowered q.lowered (note-noted i q.note p.listing l f B C q.lowered.drop);
        calm = λ z.
            let y = q.lowered.same z in
            let x = p.lowered.same y.0 in
            note-calm i q.note p.listing l A (p.calm y.0) (rw x.1 at (q.calm z));
      })

  -- one pass more
  pub falling_more : {n high : ℕ} {A B C list list' : List ℕ} {b : Bool} → Falling f base mark n high A B list → Passed f base mark n n B C list' b
      → Falling f base mark n high A C list'
  falling_more p q =
      let e = q.lowered in record {
        costs = e.costs;
        walked = λ s W. e.walked s (p.walked s W);
        drop = λ x. omega (arith, e.drop x, p.drop x);
        top = λ x h. omega (arith, e.drop x, p.top x h);
        listing = q.listing;
        noted = e.so;
      }

  -- the last lowers nothing, so every cost is the least
  pub relaxed : {n high : ℕ} {A B Z list list' : List ℕ} {b : Bool} → Falling f base mark n high A B list → Passed f base mark n n B Z list' b → b ≡ false
      → Relaxed f base mark n A Z list'
  relaxed {Z = Z} {list' = list} F p none = record {
    costs = p.lowered.costs;
    listing = p.listing;
    least = λ s W e. least f F.costs.sized base mark Z s (omega (arith, p.lowered.drop s, F.drop s)) tight (p.lowered.walked s (F.walked s W));
  }
    where
      tight : (x : ℕ) → In base mark x → Followed f base mark x 8 (at Z x) Z
      tight x h m l d v s t =
          let k = p.listing.listed x h in
          let c : note_at list k.0 ≤ at Z x = rw (sym (p.lowered.same none).1, k.2) at (p.calm none k.0 k.1) in
          omega (arith, p.lowered.so k.0 k.1 m l d v (rw k.2 s) t)
