-- The search in one list: the entry of a cell is its distance × 8,192 + the next cell of the queue, so that the queue is linked inside the list.
-- The queue q, its length n and the places p in it are not in the code: the list and the cells that it notes hold them for some q, n and p.
use Rattle.std.specs.Prelude.{ℕ, zero, suc, ◌+◌, ◌-◌, ◌*◌, ◌/◌, ◌%◌, ◌≤◌, ◌<◌, ◌≡◌, List, ltb, eqb, length, get_or, set, Option}
use Rattle.learning.specs.Ground.{pick, list_of}
use Rattle.model.specs.Floor.{Floor, size, dearest_price, Sized}
use Rattle.floor.specs.Moves.{to, all_kinds, kinds, cost}
use Rattle.floor.specs.declared.Step.{Step}
use Rattle.opening.specs.Distances.{far}
use Rattle.opening.specs.Search.{none, Queue, Followed, Searching, to_go}

-- how many links an entry can tell apart; the link of the queue's last cell
abbrev pub links : ℕ
links = 8192

abbrev pub end : ℕ
end = 8191

-- an entry; the distance and the next cell in that of the cell x; and the entry of a cell that has neither: the most that 32 bits hold
abbrev pub entry : (v next : ℕ) → ℕ
entry v next = v * links + next

unfoldable pub dist_at : List ℕ → ℕ → ℕ
dist_at l x = get_or l x 0 / links

unfoldable pub next_at : List ℕ → ℕ → ℕ
next_at l x = get_or l x 0 % links

abbrev pub blank : ℕ
blank = entry none end

-- the cell at the place i of a queue, and `end` past its last
abbrev pub cell_at : (q : ℕ → ℕ) → (n i : ℕ) → ℕ
cell_at q n i = pick (ltb i n) (q i) end

-- the links are the queue's
pub record Chain (l : List ℕ) (q : ℕ → ℕ) (n last : ℕ) : Type 0 where
  -- it is not empty, and ends with the last
  pub some : 1 ≤ n
  pub final : q (n - 1) ≡ last
  -- each of its cells leads to the one after it, the last to none
  pub linked : (i : ℕ) → i < n → next_at l (q i) ≡ cell_at q n (i + 1)

-- the cell b gets the distance v and is linked to the last
abbrev pub entered : List ℕ → (last b v : ℕ) → List ℕ
entered l last b v = set (set l last (entry (dist_at l last) b)) b (entry v end)

-- the last of some cells; and the list with the first k of them entered at distance 0, each linked to the one before
abbrev pub last_of : List ℕ → ℕ
last_of gs = get_or gs (length gs - 1) 0

unfoldable pub lined : List ℕ → (gs : List ℕ) → (k : ℕ) → List ℕ
lined l gs zero = l
lined l gs (suc zero) = set l (get_or gs 0 0) (entry 0 end)
lined l gs (suc (suc k)) = entered (lined l gs (suc k)) (get_or gs k 0) (get_or gs (suc k) 0) 0

-- the search has begun: the first k of the goals stand in the queue, in their order, and no other cell
pub record Begun (f : Floor) (gs l : List ℕ) (k : ℕ) : Type 0 where
  -- an entry for each cell
  pub long : length l ≡ size f
  -- the queue is those goals, each at distance 0
  pub queue : Queue f (dist_at l) (λ i. get_or gs i 0) k 0
  -- the links are that queue's
  pub chain : Chain l (λ i. get_or gs i 0) k (get_or gs (k - 1) 0)

-- what a step comes to: the cell that it leads to at cost c has a distance, or gets v and is linked to the queue's last
pub data Entered (s : Option Step) (c v : ℕ) (l : List ℕ) (last : ℕ) : List ℕ → ℕ → Type 0 where
  stays : ((b : ℕ) → s ≡ to b c → dist_at l b < none) → Entered s c v l last l last
  enters : (b : ℕ) → s ≡ to b c → none ≤ dist_at l b → Entered s c v l last (entered l last b v) b

-- a step can be taken: what it leads to has a place in the list, and so has the queue's last; and the distance fits
pub record Enterable (s : Option Step) (v : ℕ) (l : List ℕ) (last : ℕ) : Type 0 where
  pub inside : (b c : ℕ) → s ≡ to b c → (b < length l) × (b < links)
  pub final : last < length l
  pub small : v < none

-- what following the first m moves from the cell x does to the list
pub record Follows (f : Floor) (x c v m : ℕ) (l : List ℕ) (last : ℕ) (l' : List ℕ) (last' : ℕ) : Type 0 where
  -- it has an entry for each cell, and its last is one
  pub long : length l' ≡ size f
  pub final : last' < size f
  -- whatever queue its links were, they are one with the new cells at its end
  pub keeps : (q : ℕ → ℕ) (n : ℕ) → Queue f (dist_at l) q n v → Chain l q n last → v ≤ dearest_price * n
      → (q' : ℕ → ℕ) × (n' : ℕ) × Followed f x c v m (dist_at l) q n (dist_at l') q' n' × Chain l' q' n' last'

-- a place of the code is the cell that stands there, `end` at the queue's end: it can be read, and what the moves of cost c reach from it
abbrev pub Readable : List ℕ → (place : ℕ) → Type 0
Readable l place = (place ≡ end → ⊥) → place < length l

abbrev pub offer_of : List ℕ → (place c : ℕ) → ℕ
offer_of l place c = pick (eqb place end) none (dist_at l place + c)

-- each cost in use has a place, which can be read
pub record Offered (l ps : List ℕ) : Type 0 where
  pub some : 1 ≤ length ps
  pub few : length ps ≤ all_kinds
  pub readable : (k : ℕ) → k < length ps → Readable l (get_or ps k 0)

-- r is the cost of the least offer, of the first k
pub record Least (l ps : List ℕ) (k r : ℕ) : Type 0 where
  pub one : r < length ps
  pub low : (j : ℕ) → j < k → offer_of l (get_or ps r 0) (cost r) ≤ offer_of l (get_or ps j 0) (cost j)

-- a place after the queue has grown: one that stood at its end stands at the first new cell
abbrev pub caught : (next place : ℕ) → ℕ
caught next place = pick (eqb place end) next place

-- the places after the k-th cost was followed from its cell, the queue's last having been `last`
abbrev pub moved_on : (l ps : List ℕ) → (k cell last : ℕ) → List ℕ
moved_on l ps k cell last = set (list_of (length ps) (λ j. caught (next_at l last) (get_or ps j 0))) k (next_at l cell)

-- what the search keeps in its list and its places: a queue and places in it
pub record Held (f : Floor) (goals l : List ℕ) (last : ℕ) (ps : List ℕ) (left : ℕ) : Type 0 where
  -- a floor of a right size, an entry for each cell, a place for each cost in use
  pub sized : Sized f
  pub long : length l ≡ size f
  pub whole : length ps ≡ kinds f.bytes
  -- the queue, its length and the places in it, which `Searching` is kept of
  pub q : ℕ → ℕ
  pub n : ℕ
  pub p : ℕ → ℕ
  pub searching : Searching f goals (dist_at l) q n p
  -- the links are that queue's, and the places of the code are the cells at those places
  pub chain : Chain l q n last
  pub stands : (k : ℕ) → k < kinds f.bytes → get_or ps k 0 ≡ cell_at q n (p k)
  -- how many steps are left at most
  pub steps : left ≡ to_go f p

-- an entry's distance alone, `far` where there is none
abbrev pub plain : ℕ → ℕ
plain d = pick (ltb d none) d far
