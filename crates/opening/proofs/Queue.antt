-- The queue of the search in rising order: what a store at its end keeps, and what the moves of one cost from one cell add.
-- Assumes nothing.
use Prim.Native.Nat.{ℕ, ◌+◌, ◌*◌, ◌≤◌, ◌<◌}
use mathlib.Core.Path.{◌≡◌, refl, sym, ap, ◌∙◌, subst}
use mathlib.Core.Bool.{false}
use native.Mathlib.Decide.{ℕ_discrete}
use native.Mathlib.Omega.{arith}
use borrow.Author.Count.{below_more}
use borrow.Author.Tests.{lt-ltb, le-ltb, eq-eqb, ne_eqb}
use lib.Dec.{ltb, eqb}
use Rattle.learning.specs.Ground.{pick}
use Rattle.learning.proofs.Sums.{total_each, total_one}
use Rattle.model.specs.Floor.{Floor, size, Sized, free, dearest_price, price}
use Rattle.model.specs.Grounds.{price-free}
use Rattle.model.proofs.Accepted.{never}
use Rattle.model.proofs.Moves.{is_true, free-below, sized-cells}
use Rattle.floor.specs.Moves.{to, step_of}
use Rattle.floor.proofs.Steps.{stepped, same_to}
use Rattle.opening.specs.Search.{none, unset, Queue, Grown, Followed}

-- ---- a store

-- e is d but for v at b
pub record Put (d : ℕ → ℕ) (b v : ℕ) (e : ℕ → ℕ) : Type 0 where
  pub here : e b ≡ v
  pub else : (y : ℕ) → (y ≡ b → ⊥) → e y ≡ d y

-- there is one
put_at : (ℕ → ℕ) → ℕ → ℕ → ℕ → ℕ
put_at d b v y = pick (eqb y b) v (d y)

pub put_at_lem : (d : ℕ → ℕ) (b v : ℕ) → (e : ℕ → ℕ) × Put d b v e
unfolding put_at
put_at_lem d b v = (put_at d b v, record { here = ap (λ t. pick t v (d b)) (eq-eqb b b refl); else = λ y e. ap (λ t. pick t v (d y)) (ne_eqb y b e) })

-- what stands there already is put there by nothing
pub put_same : (d : ℕ → ℕ) (b : ℕ) → Put d b (d b) d
put_same d b = record { here = refl; else = λ y e. refl }

-- what holds of the number stored at b, and of the others as they were, holds of all
pub put_all : (P : ℕ → ℕ → Type 0) {d e : ℕ → ℕ} {b v : ℕ} → Put d b v e → P b v → ((y : ℕ) → (y ≡ b → ⊥) → P y (d y)) → (y : ℕ) → P y (e y)
put_all P {d} {e} {b} {v} t new old y = by (ℕ_discrete y b)
  where
    by : Dec (y ≡ b) → P y (e y)
    by (yes q) = subst (λ z. P z (e z)) (sym q) (subst (P b) (sym t.here) new)
    by (no q) = subst (P y) (sym (t.else y q)) (old y q)

-- ---- the queue

pub none_large : {f : Floor} → Sized f → (n : ℕ) → n ≤ size f → dearest_price * n < none
none_large z n h = let k = sized-cells z in omega arith

module _ {f : Floor} (z : Sized f) where
  -- no cell has a distance
  pub queue_none : (d q : ℕ → ℕ) → ((x : ℕ) → x < size f → d x ≡ none) → Queue f d q 0 0
  queue_none d q h = record {
    left = omega (arith, total_each (size f) 1 (λ x. pick (ltb (d x) none) 0 1) (λ x l. rw (le-ltb (d x) none (omega (arith, h x l)))));
    on = λ i l. absurd (omega arith);
    near = λ i l. absurd (omega arith);
    sorted = λ j l. absurd (omega arith);
    high = λ i l. absurd (omega arith);
    found = λ x l s. absurd (omega (arith, h x l));
    most = λ x l. omega (arith, h x l);
  }

  module _ {d q : ℕ → ℕ} {n v : ℕ} (Q : Queue f d q n v) where
    pub queue_few : n ≤ size f
    queue_few = omega (arith, Q.left)

    pub queue-near : (i : ℕ) → i < n → d (q i) < none
    queue-near i h = omega (arith, Q.near i h, none_large z i (omega (arith, queue_few)))

    pub queue-high : (x : ℕ) → x < size f → d x < none → d x ≤ v
    queue-high x h l = let (i, k, e) = Q.found x h l in omega (arith, Q.high i k, ap d e)

    pub queue_raise : (w : ℕ) → v ≤ w → Queue f d q n w
    queue_raise w h = record {
      left = Q.left;
      on = Q.on;
      near = Q.near;
      sorted = Q.sorted;
      high = λ i l. omega (arith, Q.high i l);
      found = Q.found;
      most = Q.most;
    }

    -- one more cell at its end
    module _ (b : ℕ) (inside : b < size f) (new : none ≤ d b) (slow : v ≤ dearest_price * n) {d' q' : ℕ → ℕ} (D : Put d b v d') (R : Put q n b q') where
      low : v < none
      low = omega (arith, none_large z n queue_few)

      old : (i : ℕ) → i < n → d' (q' i) ≡ d (q i)
      old i h = ap d' (R.else i (λ e. omega arith)) ∙ D.else (q i) (λ e. omega (arith, queue-near i h, ap d e))

      last : d' (q' n) ≡ v
      last = ap d' R.here ∙ D.here

      fewer : unset f d' + 1 ≡ unset f d
      fewer = total_one (size f) b 1 (λ x. pick (ltb (d x) none) 0 1) (λ x. pick (ltb (d' x) none) 0 1) inside
          (rw (D.here, lt-ltb v none low, le-ltb (d b) none new)) (λ x e. ap (λ w. pick (ltb w none) 0 1) (D.else x e))

      pub queue-push : Queue f d' q' (n + 1) v
      queue-push = record {
        left = omega (arith, Q.left, fewer);
        on = below_more (λ i. q' i < size f) n (λ i h. omega (arith, Q.on i h, R.else i (λ e. omega arith))) (omega (arith, R.here));
        near = below_more (λ i. d' (q' i) ≤ dearest_price * i) n (λ i h. omega (arith, Q.near i h, old i h)) (omega (arith, last));
        sorted = below_more (λ j. (i : ℕ) → i ≤ j → d' (q' i) ≤ d' (q' j)) n (λ j h i l. omega (arith, Q.sorted j h i l, old i (omega arith), old j h)) (λ i. upto i (ℕ_discrete i n));
        high = below_more (λ i. d' (q' i) ≤ v) n (λ i h. omega (arith, Q.high i h, old i h)) (omega (arith, last));
        found = put_all (λ y w. y < size f → w < none → (i : ℕ) × (i < n + 1) × (q' i ≡ y)) D (λ h l. (n, omega arith, R.here))
            (λ y e h l. let (i, k, g) = Q.found y h l in (i, omega arith, R.else i (λ e. omega arith) ∙ g));
        most = put_all (λ y w. y < size f → w ≤ none) D (λ h. omega (arith, low)) (λ y e h. Q.most y h);
      }
        where
          upto : (i : ℕ) → Dec (i ≡ n) → i ≤ n → d' (q' i) ≤ d' (q' n)
          upto i (yes e) l = omega (arith, ap (λ k. d' (q' k)) e)
          upto i (no e) l = omega (arith, old i (omega arith), last, Q.high i (omega arith))

-- ---- the moves of cost c from the cell x

module _ (f : Floor) (x c v : ℕ) where
  pub grown_none : (d q : ℕ → ℕ) (n : ℕ) → Grown f x c v d q n d q n
  grown_none d q n = record { more = omega arith; same = λ i h. refl; kept = λ y h. refl; lower = λ y. omega arith; new = λ i l h. absurd (omega arith) }

  -- one more cell at the end
  grown-push : {d q d' q' d'' q'' : ℕ → ℕ} {n n' : ℕ} → Grown f x c v d q n d' q' n' → v < none → (b : ℕ) → price f x b ≡ c → none ≤ d' b
      → Put d' b v d'' → Put q' n' b q'' → Grown f x c v d q n d'' q'' (n' + 1)
  grown-push {d} {q} {d'} {q'} {d''} {q''} {n} {n'} G low b p new D R = record {
    more = omega (arith, G.more);
    same = λ i h. R.else i (λ e. omega (arith, G.more)) ∙ G.same i h;
    kept = λ y h. D.else y (λ e. omega (arith, G.kept y h, ap d' e)) ∙ G.kept y h;
    lower = put_all (λ y w. w ≤ d y) D (omega (arith, G.lower b)) (λ y e. G.lower y);
    new = below_more (λ i. n ≤ i → (d'' (q'' i) ≡ v) × (price f x (q'' i) ≡ c)) n'
        (λ i l h. let (a, g) = G.new i l h in let r = R.else i (λ e. omega arith) in
        (ap d'' r ∙ D.else (q' i) (λ e. omega (arith, a, ap d' e)) ∙ a, ap (price f x) r ∙ g))
        (λ h. (ap d'' R.here ∙ D.here, ap (price f x) R.here ∙ p));
  }

  pub followed_none : (d q : ℕ → ℕ) (n : ℕ) → Queue f d q n v → Followed f x c v 0 d q n d q n
  followed_none d q n Q = record { queue = Q; grown = grown_none d q n; closed = λ k h. absurd (omega arith) }

-- no move leads from a blocked cell
pub followed_blocked : (f : Floor) → Sized f → (x c v : ℕ) {d q : ℕ → ℕ} {n : ℕ} → free f x ≡ false → Queue f d q n v
    → Followed f x c v 8 d q n d q n
followed_blocked f z x c v {d} {q} {n} e Q = record {
  queue = Q;
  grown = grown_none f x c v d q n;
  closed = λ k h b t. let u = stepped f z x k b c t in absurd (never (is_true (free f x) (price-free f x b (omega (arith, u.price, u.least)))) e);
}

-- one more move is followed: to a cell that has a distance, or to a new one
module _ {f : Floor} (z : Sized f) {x c v m : ℕ} {d q d' q' : ℕ → ℕ} {n n' : ℕ} (F : Followed f x c v m d q n d' q' n') where
  pub followed_stays : ((b : ℕ) → step_of f x m ≡ to b c → d' b < none) → Followed f x c v (m + 1) d q n d' q' n'
  followed_stays h = record {
    queue = F.queue;
    grown = F.grown;
    closed = below_more (λ j. (b : ℕ) → step_of f x j ≡ to b c → d' b ≤ v) m F.closed
        (λ b t. queue-high z F.queue b (free-below f b (stepped f z x m b c t).free) (h b t));
  }

  pub followed_enters : v ≤ dearest_price * n → (b : ℕ) → step_of f x m ≡ to b c → none ≤ d' b → {d'' q'' : ℕ → ℕ} → Put d' b v d'' → Put q' n' b q''
      → Followed f x c v (m + 1) d q n d'' q'' (n' + 1)
  followed_enters slow b t new {d''} {q''} D R =
      let u = stepped f z x m b c t in
      let steep : v ≤ dearest_price * n' = omega (arith, F.grown.more) in
      let low : v < none = omega (arith, none_large z n' (queue_few z F.queue)) in
      record {
        queue = queue-push z F.queue b (free-below f b u.free) new steep D R;
        grown = grown-push f x c v F.grown low b u.price new D R;
        closed = below_more (λ j. (y : ℕ) → step_of f x j ≡ to y c → d'' y ≤ v) m
            (λ j l y w. put_all (λ y o. d' y ≤ v → o ≤ v) D (λ o. omega arith) (λ y o i. i) y (F.closed j l y w))
            (λ y w. let g = (same_to (sym w ∙ t)).0 in omega (arith, ap d'' g, D.here));
      }
