-- The search in rising order finds the true distances: what it keeps from one place of the queue to the next, and what is left when every place is at
-- the queue's end. Assumes nothing.
use Prim.Native.Nat.{ℕ, suc, ◌+◌, ◌-◌, ◌*◌, ◌≤◌, ◌<◌}
use mathlib.Core.Path.{◌≡◌, sym, ap, ◌∙◌, subst}
use mathlib.Core.List.{List}
use native.Mathlib.Decide.{dec_le}
use native.Mathlib.Omega.{arith}
use borrow.Author.Count.{below_more}
use borrow.Author.Tests.{lt-ltb, le-ltb}
use lib.ListN.{length, get_or}
use Rattle.learning.specs.Walk.{Arrives, move, stop}
use Rattle.learning.specs.Ground.{Goal, net_of, pick}
use Rattle.learning.proofs.Certificate.{Certified}
use Rattle.learning.proofs.Sums.{total_one}
use Rattle.model.specs.Floor.{Floor, size, Sized, dearest_price, price}
use Rattle.model.specs.Grounds.{ground_of, price_same, price-free, free-inside}
use Rattle.model.proofs.Lists.{member_at, member-place}
use Rattle.model.proofs.Benches.{goal_means, goal_is}
use Rattle.floor.specs.Moves.{to, kinds, cost, step_of}
use Rattle.floor.proofs.Steps.{price-step, kind_fits, cost-high, cost_some, price-cost}
use Rattle.opening.specs.Search.{none, offer, Queue, Searching, Next, Followed, to_go}
use Rattle.opening.proofs.Queue.{Put, put_all, none_large, queue-near, queue_few, queue_raise}

module _ {f : Floor} (z : Sized f) where
  -- ---- the start: the goals alone, each at distance 0, and every place at the first

  pub searching-start : {goals : List ℕ} {d : ℕ → ℕ} → Queue f d (λ i. get_or goals i 0) (length goals) 0 → Searching f goals d (λ i. get_or goals i 0) (length goals) (λ k. 0)
  searching-start {goals} {d} Q = record {
    v = 0;
    queue = Q;
    going = record {
      zeros = λ y t. let (i, h, e) = member-place y goals (goal_means f goals y t) in omega (arith, ap d e, Q.high i h);
      met = λ x h near.
          let (i, o, e) = Q.found x h near in
          let zero : 0 ≡ d x = omega (arith, ap d e, Q.high i o) in
          subst (Arrives (net_of (ground_of f goals)) (Goal (ground_of f goals)) x) zero (x, goal_is f goals x h (member_at x goals i o (sym e)), (0, stop tt));
    };
    places = record { upto = λ k l. omega arith; done = λ k l i o. absurd (omega arith); ahead = λ k l o. omega arith };
  }

  -- ---- a step

  module _ {goals : List ℕ} {d q p : ℕ → ℕ} {n : ℕ} (S : Searching f goals d q n p) {k v : ℕ} (N : Next f d q n p k v) where
    pub step-queue : Queue f d q n v
    step-queue = queue_raise z S.queue v (omega (arith, S.places.ahead k N.one N.before))

    pub step-slow : v ≤ dearest_price * n
    step-slow = omega (arith, N.is, S.queue.near (p k) N.before, cost-high k (kind_fits f.bytes k N.one))

    module _ {d' q' p' : ℕ → ℕ} {n' : ℕ} (F : Followed f (q (p k)) (cost k) v 8 d q n d' q' n') (P : Put p k (p k + 1) p') where
      old : (i : ℕ) → i < n → d' (q' i) ≡ d (q i)
      old i h = ap d' (F.grown.same i h) ∙ F.grown.kept (q i) (queue-near z S.queue i h)

      walks : (x : ℕ) → x < size f → d' x < none → Arrives (net_of (ground_of f goals)) (Goal (ground_of f goals)) x (d' x)
      walks x h l = let (i, o, e) = F.queue.found x h l in by i o e (dec_le n i)
        where
          by : (i : ℕ) → i < n' → q' i ≡ x → Dec (n ≤ i) → Arrives (net_of (ground_of f goals)) (Goal (ground_of f goals)) x (d' x)
          by i o e (yes g) =
              let (w, c) = F.grown.new i o g in
              let cell = q (p k) in
              let (y, a, (m, walk)) = S.going.met cell (S.queue.on (p k) N.before) (queue-near z S.queue (p k) N.before) in
              let edge : price f x cell ≡ cost k = price_same f x cell ∙ ap (price f cell) (sym e) ∙ c in
              let sum : cost k + d cell ≡ d' x = omega (arith, w, ap d' e) in
              subst (λ u. Arrives (net_of (ground_of f goals)) (Goal (ground_of f goals)) x u) sum (y, a, (suc m, move {z = y} {n = m} tt (cost_some k (kind_fits f.bytes k N.one), edge) walk))
          by i o e (no g) =
              let same : q i ≡ x = sym (F.grown.same i (omega arith)) ∙ e in
              let near : d x < none = omega (arith, queue-near z S.queue i (omega arith), ap d same) in
              subst (λ u. Arrives (net_of (ground_of f goals)) (Goal (ground_of f goals)) x u) (sym (F.grown.kept x near)) (S.going.met x h near)

      -- where moves were followed before, and where they are now
      earlier : (j : ℕ) → j < kinds f.bytes → (i : ℕ) → i < p j → (b : ℕ) → price f (q' i) b ≡ cost j → d' b ≤ d' (q' i) + cost j
      earlier j l i h b e =
          let few : i < n = omega (arith, S.places.upto j l) in
          omega (arith, old i few, F.grown.lower b, S.places.done j l i h b (ap (λ y. price f y b) (sym (F.grown.same i few)) ∙ e))

      current : (b : ℕ) → price f (q' (p k)) b ≡ cost k → d' b ≤ d' (q' (p k)) + cost k
      current b e =
          let g : price f (q (p k)) b ≡ cost k = ap (λ y. price f y b) (sym (F.grown.same (p k) N.before)) ∙ e in
          let (m, l, t) = price-step f z (q (p k)) b (omega (arith, g, cost_some k (kind_fits f.bytes k N.one))) in
          omega (arith, old (p k) N.before, F.closed m l b (subst (λ c. step_of f (q (p k)) m ≡ to b c) g t))

      -- what comes next is no nearer
      front : (j w : ℕ) → w < n' → (w < n → v ≤ d (q w) + cost j) → v ≤ d' (q' w) + cost j
      front j w h far = by (dec_le n w)
        where
          by : Dec (n ≤ w) → v ≤ d' (q' w) + cost j
          by (yes g) = omega (arith, (F.grown.new w h g).0)
          by (no g) = omega (arith, old w (omega arith), far (omega arith))

      pub searching-step : Searching f goals d' q' n' p'
      searching-step = record {
        v = v;
        queue = F.queue;
        going = record { zeros = λ y t. omega (arith, F.grown.lower y, S.going.zeros y t); met = walks };
        places = record {
          upto = put_all (λ j w. j < kinds f.bytes → w ≤ n') P (λ l. omega (arith, F.grown.more)) (λ j e l. omega (arith, F.grown.more, S.places.upto j l));
          done = put_all (λ j w. j < kinds f.bytes → (i : ℕ) → i < w → (b : ℕ) → price f (q' i) b ≡ cost j → d' b ≤ d' (q' i) + cost j) P
              (λ l. below_more (λ i. (b : ℕ) → price f (q' i) b ≡ cost k → d' b ≤ d' (q' i) + cost k) (p k) (earlier k l) current) (λ j e l. earlier j l);
          ahead = put_all (λ j w. j < kinds f.bytes → w < n' → v ≤ d' (q' w) + cost j) P
              (λ l h. front k (p k + 1) h (λ g. omega (arith, S.queue.sorted (p k + 1) g (p k) (omega arith))))
              (λ j e l h. front j (p j) h (N.low j l));
        };
      }

    -- a place has one cell less to go
    pub step_falls : {p' : ℕ → ℕ} → Put p k (p k + 1) p' → to_go f p' + 1 ≡ to_go f p
    step_falls {p'} P =
        total_one (kinds f.bytes) k 1 (λ j. size f - p j) (λ j. size f - p' j) N.one (omega (arith, P.here, N.before, queue_few z S.queue)) (λ j e. ap (λ i. size f - i) (P.else j e))

  -- ---- the end

  -- where every place is at the queue's end, no move leads to a lower sum
  closed : {goals : List ℕ} {d q p : ℕ → ℕ} {n : ℕ} → Searching f goals d q n p → ((k : ℕ) → k < kinds f.bytes → n ≤ p k) → (x b : ℕ) → 1 ≤ price f x b → d x ≤ price f x b + d b
  closed {goals} {d} {q} {p} {n} S ended x b h = by (dec_le none (d b))
    where
      back : 1 ≤ price f b x
      back = omega (arith, price_same f x b)

      by : Dec (none ≤ d b) → d x ≤ price f x b + d b
      by (yes l) = omega (arith, S.queue.most x (free-inside f x (price-free f x b h)))
      by (no l) =
          let (i, o, e) = S.queue.found b (free-inside f b (price-free f b x back)) (omega arith) in
          let (k, one, c) = price-cost f z b x back in
          omega (arith, price_same f x b, c, ap d e, S.places.done k one i (omega (arith, ended k one)) x (ap (λ y. price f y x) e ∙ c))

  pub all_followed : {goals : List ℕ} {d q p : ℕ → ℕ} {n : ℕ} → Searching f goals d q n p → ((k : ℕ) → k < kinds f.bytes → n ≤ p k) → Certified (ground_of f goals) none d
  all_followed S h = record { high = S.queue.most; zeros = S.going.zeros; met = S.going.met; closed = closed S h }

  -- ---- the least offer, by whether its place is before the queue's end

  module _ {goals : List ℕ} {d q p : ℕ → ℕ} {n r : ℕ} (S : Searching f goals d q n p) (one : r < kinds f.bytes)
      (low : (j : ℕ) → j < kinds f.bytes → offer d q n (p r) (cost r) ≤ offer d q n (p j) (cost j)) where
    inner : (k : ℕ) → p k < n → offer d q n (p k) (cost k) ≡ d (q (p k)) + cost k
    inner k h = ap (λ b. pick b (d (q (p k)) + cost k) none) (lt-ltb (p k) n h)

    outer : n ≤ p r → offer d q n (p r) (cost r) ≡ none
    outer h = ap (λ b. pick b (d (q (p r)) + cost r) none) (le-ltb (p r) n h)

    -- at it: so is every other
    ended : n ≤ p r → (k : ℕ) → k < kinds f.bytes → Dec (n ≤ p k) → n ≤ p k
    ended h k l (yes g) = g
    ended h k l (no g) = absurd (omega (
      arith,
      low k l,
      outer h,
      inner k (omega arith),
      S.queue.near (p k) (omega arith),
      cost-high k (kind_fits f.bytes k l),
      none_large z n (queue_few z S.queue),
    ))

    pub none_left : n ≤ p r → Certified (ground_of f goals) none d
    none_left h = all_followed S (λ k l. ended h k l (dec_le n (p k)))

    -- before it: that is the step to take
    pub next : p r < n → Next f d q n p r (offer d q n (p r) (cost r))
    next h = record { one = one; before = h; is = inner r h; low = λ j l g. omega (arith, low j l, inner j g) }
