-- What the search keeps in its list and its places: the start, the least offer, a step, and the end, where the distances are true.
-- Assumes nothing.
use Prim.Native.Nat.{ℕ, zero, suc, ◌+◌, ◌-◌, ◌*◌, ◌/◌, ◌≤◌, ◌<◌}
use mathlib.Core.Path.{◌≡◌, refl, sym, ap, ◌∙◌, subst}
use mathlib.Core.Bool.{Bool, true, false}
use mathlib.Core.List.{List}
use native.Mathlib.Decide.{ℕ_discrete, dec_le}
use native.Mathlib.Numerals.{add-one}
use native.Mathlib.Omega.{arith}
use borrow.Author.Tests.{lt-ltb, le-ltb, eq-eqb, ne_eqb}
use lib.ListN.{length, get_or, length-set, replicate, length-replicate, get_or-replicate}
use lib.Seq.{get_or-set_same, get_or-set_other}
use Rattle.learning.specs.Ground.{pick, list_of, reach_of, dist_of}
use Rattle.learning.proofs.Certificate.{Certified, certificate}
use Rattle.learning.proofs.Spread.{list_at, list_length}
use Rattle.learning.proofs.Sums.{total_each, total-part}
use Rattle.model.specs.Floor.{Floor, size, Sized}
use Rattle.model.specs.Grounds.{ground_of}
use Rattle.model.specs.Checks.{Benched}
use Rattle.floor.specs.Moves.{all_kinds, kinds, cost}
use Rattle.floor.proofs.Steps.{kinds-between, kind_fits}
use Rattle.opening.specs.Distances.{far, Distances}
use Rattle.opening.specs.Search.{none, Followed, offer, Next}
use Rattle.opening.specs.Chain.{links, end, entry, dist_at, next_at, blank, cell_at, Chain, entered, last_of, lined, Begun, Follows, Readable, offer_of, Offered, Least, caught, moved_on, Held, plain}
use Rattle.opening.proofs.Queue.{Put, put_at_lem, put_same, none_large, queue_none, queue_few, queue-push}
use Rattle.opening.proofs.Rising.{searching-start, step-queue, step-slow, searching-step, all_followed, step_falls, none_left, next}
use Rattle.opening.proofs.Chain.{dist-set, entered-long, lined_more, cell_in_lem, chain_one, chain_last, dist-push, chain-push}
use Rattle.opening.proofs.Truth.{true-farthest}
use Rattle.opening.proofs.Offers.{place_before, place_end, place-readable, place-offer}

-- ---- what the search keeps

-- the start: the goals one after another
module _ {f : Floor} (z : Sized f) {gs : List ℕ} (B : Benched (size f) gs) where
  -- each is above all before it
  above : (j i : ℕ) → i < j → j < length gs → get_or gs i 0 < get_or gs j 0
  above zero i h l = absurd (omega arith)
  above (suc j) i h l = by (above j i) (ℕ_discrete i j)
    where
      by : (i < j → j < length gs → get_or gs i 0 < get_or gs j 0) → Dec (i ≡ j) → get_or gs i 0 < get_or gs (suc j) 0
      by rest (yes e) = omega (arith, ap (λ (k : ℕ). get_or gs k 0) e, B.rise j l)
      by rest (no e) = omega (arith, rest (omega arith) (omega arith), B.rise j l)

  -- so the next one has no distance yet
  unmet : {l : List ℕ} {k : ℕ} → Begun f gs l k → k < length gs → none ≤ dist_at l (get_or gs k 0)
  unmet {l} {k} S h = by (dec_le none (dist_at l (get_or gs k 0)))
    where
      by : Dec (none ≤ dist_at l (get_or gs k 0)) → none ≤ dist_at l (get_or gs k 0)
      by (yes e) = e
      by (no e) = let (i, o, u) = S.queue.found (get_or gs k 0) (B.on k h) (omega arith) in absurd (omega (arith, u, above k i o h))

  module _ {l : List ℕ} (empty : l ≡ replicate (size f) blank) where
    long : length l ≡ size f
    long = ap length empty ∙ length-replicate (size f) blank

    -- the first, then one more
    begun_one : Begun f gs (lined l gs 1) 1
    unfolding dist_at lined
    begun_one =
        let on = B.on 0 B.one in
        let fits : get_or gs 0 0 < length l = omega (arith, long) in
        let blank-at : (x : ℕ) → x < size f → dist_at l x ≡ none = λ x h. ap (λ w. w / links) (ap (λ y. get_or y x 0) empty ∙ get_or-replicate (size f) x blank 0 h) in
        record {
          long = length-set l (get_or gs 0 0) (entry 0 end) ∙ long;
          queue = queue-push z (queue_none z (dist_at l) (λ i. get_or gs i 0) blank-at) (get_or gs 0 0) on (omega (arith, blank-at (get_or gs 0 0) on)) (omega arith)
              (dist-set l (get_or gs 0 0) 0 end fits (omega arith)) (put_same _ 0);
          chain = chain_one l (λ i. get_or gs i 0) 0 fits;
        }

    begun_more : (k : ℕ) → 1 ≤ k → k < length gs → Begun f gs (lined l gs k) k → Begun f gs (lined l gs (k + 1)) (k + 1)
    begun_more k o h S =
        let on = B.on k h in
        let new = unmet S h in
        let back : k ≡ k + 1 - 1 = omega arith in
        rw (lined_more l gs k o)
        (record {
          long = entered-long (lined l gs k) (get_or gs (k - 1) 0) (get_or gs k 0) 0 ∙ S.long;
          queue = queue-push z S.queue (get_or gs k 0) on new (omega arith) (dist-push z S.long S.queue S.chain on new 0) (put_same _ k);
          chain = subst (λ i. Chain (entered (lined l gs k) (get_or gs (k - 1) 0) (get_or gs k 0) 0) (λ i. get_or gs i 0) (k + 1) (get_or gs i 0)) back
              (chain-push z S.long S.queue S.chain on new (put_same _ k) 0);
        })

    begun : (k : ℕ) → 1 ≤ k → k ≤ length gs → Begun f gs (lined l gs k) k
    begun zero o h = absurd (omega arith)
    begun (suc zero) o h = begun_one
    begun (suc (suc k)) o h = subst (λ k. Begun f gs (lined l gs k) k) (add-one (suc k)) (begun_more (suc k) (omega arith) (omega arith) (begun (suc k) (omega arith) (omega arith)))

    -- all of them, and each place at the first
    pub held_start : {l' : List ℕ} {first : ℕ} → l' ≡ lined l gs (length gs) → first ≡ get_or gs 0 0 → (n : ℕ) → n ≡ kinds f.bytes
        → Held f gs l' (last_of gs) (replicate n first) (n * size f)
    held_start {l'} {first} e at n whole =
        let S = subst (λ l. Begun f gs l (length gs)) (sym e) (begun (length gs) B.one (omega arith)) in
        record {
          sized = z;
          long = S.long;
          whole = length-replicate n first ∙ whole;
          q = λ i. get_or gs i 0;
          n = length gs;
          p = λ k. 0;
          searching = searching-start z S.queue;
          chain = S.chain;
          stands = λ k h. get_or-replicate n k first 0 (omega arith) ∙ at ∙ sym (cell_in_lem (λ i. get_or gs i 0) (length gs) 0 B.one);
          steps = ap (λ n. n * size f) whole ∙ sym (total_each (kinds f.bytes) (size f) (λ k. size f - 0) (λ k h. omega arith));
        }

module _ {f : Floor} {goals l : List ℕ} {last : ℕ} {ps : List ℕ} {left : ℕ} (H : Held f goals l last ps left) where
  -- by other words for the queue's last and the steps
  pub held_same : {last' left' : ℕ} → last' ≡ last → left' ≡ left → Held f goals l last' ps left'
  held_same e g = rw (e, g) H

  held-readable : (k : ℕ) → k < kinds f.bytes → Readable l (get_or ps k 0)
  held-readable k h = place-readable H.sized l H.long H.searching.queue (H.p k) (H.stands k h)

  pub held_offered : Offered l ps
  held_offered = record {
    some = omega (arith, H.whole, (kinds-between f.bytes).0);
    few = omega (arith, H.whole, (kinds-between f.bytes).1);
    readable = λ k h. held-readable k (omega (arith, H.whole));
  }

  -- a place is the queue's end, or before it
  at_end_lem : (k : ℕ) → k < kinds f.bytes → get_or ps k 0 ≡ end → H.n ≤ H.p k
  at_end_lem k h = place_end H.sized l H.long H.searching.queue (H.p k) (H.stands k h)

  before_end : (k : ℕ) → k < kinds f.bytes → (get_or ps k 0 ≡ end → ⊥) → H.p k < H.n
  before_end k h = place_before H.sized l H.long H.searching.queue (H.p k) (H.stands k h)

  pub held_last : last < size f
  held_last = chain_last H.searching.queue H.chain

  -- the least offer: at the queue's end all is found, before it is the step to take
  module _ {r : ℕ} (L : Least l ps (length ps) r) where
    held_one : r < kinds f.bytes
    held_one = omega (arith, L.one, H.whole)

    -- what asking for it wants
    pub held-offer : Readable l (get_or ps r 0) × (r < all_kinds)
    held-offer = (held-readable r held_one, kind_fits _ _ held_one)

    offers : (k : ℕ) → k < kinds f.bytes → offer_of l (get_or ps k 0) (cost k) ≡ offer (dist_at l) H.q H.n (H.p k) (cost k)
    offers k h = place-offer H.sized l H.long H.searching.queue (H.p k) (H.stands k h) (cost k)

    low : (j : ℕ) → j < kinds f.bytes → offer (dist_at l) H.q H.n (H.p r) (cost r) ≤ offer (dist_at l) H.q H.n (H.p j) (cost j)
    low j h = omega (arith, L.low j (omega (arith, H.whole)), offers r held_one, offers j h)

    pub held_none : get_or ps r 0 ≡ end → Certified (ground_of f goals) none (dist_at l)
    held_none e = none_left H.sized H.searching held_one low (at_end_lem r held_one e)

    held_next : {v : ℕ} → v ≡ offer_of l (get_or ps r 0) (cost r) → (get_or ps r 0 ≡ end → ⊥) → Next f (dist_at l) H.q H.n H.p r v
    held_next {v} o h =
        subst (Next f (dist_at l) H.q H.n H.p r) (sym (o ∙ offers r held_one))
        (next H.sized H.searching held_one low (before_end r held_one h))

  -- a step
  module _ {r v : ℕ} (L : Least l ps (length ps) r) (o : v ≡ offer_of l (get_or ps r 0) (cost r)) (before : get_or ps r 0 ≡ end → ⊥) where
    N : Next f (dist_at l) H.q H.n H.p r v
    N = held_next L o before

    cell : get_or ps r 0 ≡ H.q (H.p r)
    cell = H.stands r N.one ∙ cell_in_lem H.q H.n (H.p r) N.before

    step_on : get_or ps r 0 < size f
    step_on = omega (arith, cell, H.searching.queue.on (H.p r) N.before)

    step_small : v < none
    step_small = omega (arith, step-slow H.sized H.searching N, none_large H.sized H.n (queue_few H.sized H.searching.queue))

    -- what following and moving on ask
    pub step-follow : ((get_or ps r 0 < size f) × (r < all_kinds)) × ((length l ≡ size f) × (last < size f)) × (v < none)
    step-follow = ((step_on, kind_fits _ _ N.one), (H.long, held_last), step_small)

    pub step_move : {l' : List ℕ} {last' : ℕ} → Follows f (get_or ps r 0) (cost r) v 8 l last l' last' → (r < length ps) × (get_or ps r 0 < length l') × (last < length l')
    step_move F = (omega (arith, N.one, H.whole), omega (arith, step_on, F.long), omega (arith, held_last, F.long))

    moved : {l' : List ℕ} {last' : ℕ} → Follows f (get_or ps r 0) (cost r) v 8 l last l' last' → Held f goals l' last' (moved_on l' ps r (get_or ps r 0) last) (left - 1)
    moved {l'} {last'} F =
        let S = H.searching in
        let (q', n', G, C) = F.keeps H.q H.n (step-queue H.sized S N) H.chain (step-slow H.sized S N) in
        let (p', P) = put_at_lem H.p r (H.p r + 1) in
        record {
          sized = H.sized;
          long = F.long;
          whole = length-set up r (next_at l' (get_or ps r 0)) ∙ long;
          q = q';
          n = n';
          p = p';
          searching = searching-step H.sized S N (subst (λ x. Followed f x (cost r) v 8 (dist_at l) H.q H.n (dist_at l') q' n') cell G) P;
          chain = C;
          stands = λ k h. by q' n' p' P G.grown.more G.grown.same C k h (ℕ_discrete k r);
          steps = omega (arith, H.steps, step_falls H.sized S N P);
        }
      where
        up : List ℕ
        up = list_of (length ps) (λ k. caught (next_at l' last) (get_or ps k 0))

        long : length up ≡ kinds f.bytes
        long = list_length (length ps) (λ k. caught (next_at l' last) (get_or ps k 0)) ∙ H.whole

        by : (q' : ℕ → ℕ) (n' : ℕ) (p' : ℕ → ℕ) → Put H.p r (H.p r + 1) p' → H.n ≤ n' → ((i : ℕ) → i < H.n → q' i ≡ H.q i) → Chain l' q' n' last'
            → (k : ℕ) → k < kinds f.bytes → Dec (k ≡ r) → get_or (moved_on l' ps r (get_or ps r 0) last) k 0 ≡ cell_at q' n' (p' k)
        by q' n' p' P m s C k h (yes u) =
            ap (λ k. get_or (moved_on l' ps r (get_or ps r 0) last) k 0) u ∙ get_or-set_same up r (next_at l' (get_or ps r 0)) 0 (omega (arith, N.one, long))
            ∙ ap (next_at l') (cell ∙ sym (s (H.p r) N.before)) ∙ C.linked (H.p r) (omega (arith, N.before)) ∙ ap (cell_at q' n') (sym (ap p' u ∙ P.here))
        by q' n' p' P m s C k h (no u) =
            get_or-set_other up r k (next_at l' (get_or ps r 0)) 0 u ∙ list_at (length ps) (λ k. caught (next_at l' last) (get_or ps k 0)) k 0 (omega (arith, H.whole))
            ∙ at (ℕ_discrete (get_or ps k 0) end) ∙ ap (cell_at q' n') (sym (P.else k u))
          where
            at : Dec (get_or ps k 0 ≡ end) → caught (next_at l' last) (get_or ps k 0) ≡ cell_at q' n' (H.p k)
            at (yes g) =
                let e : H.n - 1 < H.n = omega (arith, H.chain.some) in
                let i : H.n - 1 + 1 ≡ H.p k = omega (arith, at_end_lem k h g, H.searching.places.upto k h) in
                ap (λ t. pick t (next_at l' last) (get_or ps k 0)) (eq-eqb (get_or ps k 0) end g)
                ∙ ap (next_at l') (sym (s (H.n - 1) e ∙ H.chain.final)) ∙ C.linked (H.n - 1) (omega arith) ∙ ap (cell_at q' n') i
            at (no g) =
                let i = before_end k h g in
                ap (λ t. pick t (next_at l' last) (get_or ps k 0)) (ne_eqb (get_or ps k 0) end g) ∙ H.stands k h ∙ cell_in_lem H.q H.n (H.p k) i
                ∙ sym (cell_in_lem q' n' (H.p k) (omega arith) ∙ s (H.p k) i)

    pub held-step : {l' ps' : List ℕ} {last' left' : ℕ} → Follows f (get_or ps r 0) (cost r) v 8 l last l' last' → ps' ≡ moved_on l' ps r (get_or ps r 0) last → left' ≡ left - 1
        → Held f goals l' last' ps' left'
    held-step F e g = rw (e, g) (moved F)

  -- no steps left: every place is at the queue's end
  pub held-done : left ≤ 0 → Certified (ground_of f goals) none (dist_at l)
  held-done h = all_followed H.sized H.searching
      (λ k o. omega (arith, H.steps, total-part (kinds f.bytes) k (λ k. size f - H.p k) o, queue_few H.sized H.searching.queue))

-- ---- the end

-- the distances alone are the true ones
pub certified_distances : {f : Floor} {goals l' : List ℕ} (l : List ℕ) → Sized f → length l ≡ size f → Certified (ground_of f goals) none (dist_at l)
    → l' ≡ list_of (length l) (λ x. plain (dist_at l x)) → Distances f goals l'
certified_distances {f} {goals} {l'} l z long C e = record {
  long = ap length e ∙ list_length (length l) (λ x. plain (dist_at l x)) ∙ long;
  each = λ x h. ap (λ y. get_or y x 0) e ∙ list_at (length l) (λ x. plain (dist_at l x)) x 0 (omega arith) ∙ by x (reach_of (ground_of f goals) x) refl (found x h);
}
  where
    found : (x : ℕ) → x < size f → dist_at l x ≡ pick (reach_of (ground_of f goals) x) (dist_of (ground_of f goals) x) none
    found = certificate (ground_of f goals) none (dist_at l) (none_large z (size f) (omega arith)) C

    by : (x : ℕ) (b : Bool) → reach_of (ground_of f goals) x ≡ b → dist_at l x ≡ pick (reach_of (ground_of f goals) x) (dist_of (ground_of f goals) x) none
        → plain (dist_at l x) ≡ pick (reach_of (ground_of f goals) x) (dist_of (ground_of f goals) x) far
    by x true r t =
        let u : dist_at l x ≡ dist_of (ground_of f goals) x = rw r at t in
        rw (r, lt-ltb (dist_at l x) none (omega (arith, u, true-farthest f z goals x r))) u
    by x false r t =
        let u : dist_at l x ≡ none = rw r at t in
        rw (r, le-ltb (dist_at l x) none (omega arith))
