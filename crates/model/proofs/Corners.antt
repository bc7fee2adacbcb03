-- Document 02's request on corners: what an allowed move needs free, both ways; and that learned tables stay sound, since distances only grow.
use Prim.Native.Nat.{ℕ, ◌+◌, ◌-◌, ◌*◌, ◌%◌, ◌≤◌, ◌<◌}
use mathlib.Core.Path.{◌≡◌, refl, sym, ap, ap₂, ◌∙◌}
use mathlib.Core.Logic.{◌⊎◌, inl, inr, ◌≢◌}
use mathlib.Core.Bool.{Bool, true, ◌&&◌}
use mathlib.Core.List.{List}
use native.Mathlib.Omega.{arith}
use Rattle.learning.specs.Walk.{Reaches}
use Rattle.learning.specs.Trial.{Sound}
use Rattle.learning.specs.Ground.{Ground, Goal, net_of, dist_of, job_of}
use Rattle.learning.proofs.Fewer.{reaches_there, dist_there, sound_here}
use Rattle.answers.specs.declared.Job.{Job}
use Rattle.answers.specs.declared.Refusal.{Refusal}
use Rattle.answers.specs.Outcomes.{Verdict}
use Rattle.std.specs.Prelude.{Err}
use Rattle.model.specs.Floor.{Floor, Sized, column, row, free, slowly, clear, price, corner, east, south, ahead, allowed}
use Rattle.model.specs.Grounds.{both_comm, both_first, fare_between, slowly_same, clear-ends, clear-true, price-fare, price-clear, price-free, free-inside, ground_of}
use Rattle.model.specs.Checks.{floor_of, goals}
use Rattle.model.proofs.Cells.{cell_at}
use Rattle.model.proofs.Compared.{Rule, ruled_by}
use Rattle.model.proofs.Moves.{is_true, all8, odd_or_along, Inside, corner-beside, corner-across, allowed-inside, allowed_some, allowed-free, allowed_corners, allowed-true}
use Rattle.model.proofs.Refusals.{IsOpening}
use Rattle.model.proofs.Demand.{refused_as_unsound_only_when_above}

-- ---- "From now on a diagonal needs both straight cells beside it free as well."

-- the moves before and after m, clockwise
abbrev pub before : ℕ → ℕ
before m = (m + 7) % 8

abbrev pub after : ℕ → ℕ
after m = (m + 1) % 8

-- the cells that they lead to from x are free: of a diagonal, the straight cells beside it
abbrev pub Beside : Floor → (x m : ℕ) → Type 0
Beside f x m = (free f (ahead f x (before m)) ≡ true) × (free f (ahead f x (after m)) ≡ true)

-- all that an allowed move needs; the odd moves are the diagonal ones
pub record Passable (f : Floor) (x m : ℕ) : Type 0 where
  pub inside : Inside f x m
  pub here : free f x ≡ true
  pub there : free f (ahead f x m) ≡ true
  pub beside : m % 2 ≡ 1 → Beside f x m

-- the move k goes along the row that m starts in, and along its column
abbrev AlongRow : (k m : ℕ) → Type 0
AlongRow k m = (east k ≡ east m) × (south k ≡ 1)

abbrev AlongColumn : (k m : ℕ) → Type 0
AlongColumn k m = (east k ≡ 1) × (south k ≡ south m)

-- a diagonal has one of each beside it
abbrev Sides : ℕ → Type 0
Sides m = (AlongColumn (before m) m × AlongRow (after m) m) ⊎ (AlongRow (before m) m × AlongColumn (after m) m)

diagonal_sides : (m : ℕ) → m < 8 → m % 2 ≡ 1 → Sides m
diagonal_sides =
    all8 (λ m. m % 2 ≡ 1 → Sides m)
    (λ e. absurd (omega arith)) (λ e. inl ((refl, refl), (refl, refl)))
    (λ e. absurd (omega arith)) (λ e. inr ((refl, refl), (refl, refl)))
    (λ e. absurd (omega arith)) (λ e. inl ((refl, refl), (refl, refl)))
    (λ e. absurd (omega arith)) (λ e. inr ((refl, refl), (refl, refl)))

module _ (f : Floor) (z : Sized f) (x m : ℕ) (l : m < 8) where
  abbrev y : ℕ
  y = ahead f x m

  -- where those moves lead
  along-row : (k : ℕ) → Inside f x m → AlongRow k m → ahead f x k ≡ corner f x y
  unfolding ahead
  along-row k i (e, s) =
      let r : row f x + south k - 1 ≡ row f x = omega (arith, s) in
      ap₂ (λ r c. r * f.width + c) r (ap (λ c. column f x + c - 1) e) ∙ sym (corner-beside f x m i)

  along-column : (k : ℕ) → Inside f x m → AlongColumn k m → ahead f x k ≡ corner f y x
  unfolding ahead
  along-column k i (e, s) =
      let c : column f x + east k - 1 ≡ column f x = omega (arith, e) in
      ap₂ (λ r c. r * f.width + c) (ap (λ r. row f x + r - 1) s) c ∙ sym (corner-across f x m i)

  -- of a straight move one of the two is x itself
  own_row : Inside f x m → south m ≡ 1 → corner f y x ≡ x
  own_row i s =
      let r : row f x + south m - 1 ≡ row f x = omega (arith, s) in
      corner-across f x m i ∙ ap (λ r. r * f.width + column f x) r ∙ cell_at f.width x

  own_column : Inside f x m → east m ≡ 1 → corner f x y ≡ x
  own_column i e =
      let c : column f x + east m - 1 ≡ column f x = omega (arith, e) in
      corner-beside f x m i ∙ ap (λ c. row f x * f.width + c) c ∙ cell_at f.width x

  -- both cells beside the move, of a straight one its two ends, are free
  abbrev Corners : Type 0
  Corners = (free f (corner f x y) ≡ true) × (free f (corner f y x) ≡ true)

  corners_beside : Inside f x m → Sides m → Corners → Beside f x m
  corners_beside i (inl (c, r)) (row, column) = (ap (free f) (along-column (before m) i c) ∙ column, ap (free f) (along-row (after m) i r) ∙ row)
  corners_beside i (inr (r, c)) (row, column) = (ap (free f) (along-row (before m) i r) ∙ row, ap (free f) (along-column (after m) i c) ∙ column)

  beside_corners : Inside f x m → Sides m → Beside f x m → Corners
  beside_corners i (inl (c, r)) (b, a) = (ap (free f) (sym (along-row (after m) i r)) ∙ a, ap (free f) (sym (along-column (before m) i c)) ∙ b)
  beside_corners i (inr (r, c)) (b, a) = (ap (free f) (sym (along-row (before m) i r)) ∙ b, ap (free f) (sym (along-column (after m) i c)) ∙ a)

  pub allowed_means : allowed f x m ≡ true → Passable f x m
  allowed_means e =
      let i = allowed-inside f z x m e in record {
        inside = i;
        here = is_true _ (price-free f x y (allowed_some f z x m e));
        there = allowed-free f z x m e;
        beside = λ odd. corners_beside i (diagonal_sides m l odd) (allowed_corners f z x m e);
      }

  pub allowed_is : Passable f x m → allowed f x m ≡ true
  allowed_is o = let c = by (odd_or_along m l) in allowed-true f z x m l i (clear-true f x y o.here o.there c.0 c.1)
    where
      i : Inside f x m
      i = o.inside

      by : (m % 2 ≡ 1) ⊎ ((east m ≡ 1) ⊎ (south m ≡ 1)) → Corners
      by (inl d) = beside_corners i (diagonal_sides m l d) (o.beside d)
      by (inr (inl e)) = (ap (free f) (own_column i e) ∙ o.here, ap (free f) (sym (along-column m i (e, refl))) ∙ o.there)
      by (inr (inr s)) = (ap (free f) (sym (along-row m i (refl, s))) ∙ o.there, ap (free f) (own_row i s) ∙ o.here)

-- ---- "Learned tables stay sound, since distances only grow."

-- The rule without corners, under which a move needs both its ends free and no more: it is kept for this comparison alone.
abbrev ends : Floor → ℕ → ℕ → Bool
ends f a b = free f a && free f b

abbrev ends_price : Floor → ℕ → ℕ → ℕ
ends_price f a b = fare_between f (ends f a b) (slowly f a b) a b

pub uncornered : (f : Floor) → Rule f (ends f) (slowly f)
uncornered f = record {
  clear_same = λ a b. both_comm (free f a) (free f b);
  slow_same = slowly_same f;
  inside = λ a b t. free-inside f a (both_first (free f a) (free f b) t);
}

abbrev pub without_corners : Floor → List ℕ → Ground
without_corners f goals = ruled_by f goals (uncornered f)

-- each move that the corners leave is a move without them, at the same cost
move-stays : (f : Floor) (a b : ℕ) → 1 ≤ price f a b → (1 ≤ ends_price f a b) × (ends_price f a b ≤ price f a b)
move-stays f a b h =
    let c = price-clear f a b h in
    let t : clear f a b ≡ ends f a b = is_true (clear f a b) c ∙ sym (is_true (ends f a b) (clear-ends f a b c)) in
    let same : price f a b ≡ ends_price f a b = price-fare f a b ∙ ap (λ t. fare_between f t (slowly f a b) a b) t in
    (omega (arith, same), omega (arith, same))

module _ (f : Floor) (goals : List ℕ) (x : ℕ) (r : Reaches (net_of (ground_of f goals)) (Goal (ground_of f goals)) x) where
  pub reached_before : Reaches (net_of (without_corners f goals)) (Goal (without_corners f goals)) x
  reached_before = reaches_there (ground_of f goals) (without_corners f goals) (λ x g. g) (move-stays f) x r

  pub distances_only_grow : dist_of (without_corners f goals) x ≤ dist_of (ground_of f goals) x
  distances_only_grow = dist_there (ground_of f goals) (without_corners f goals) (λ x g. g) (move-stays f) x r

pub learned_tables_stay_sound : (f : Floor) (goals : List ℕ) (depth p q quota : ℕ) (table : List ℕ)
    → Sound (job_of (without_corners f goals) depth p q quota) table → Sound (job_of (ground_of f goals) depth p q quota) table
learned_tables_stay_sound f goals depth p q quota table = sound_here (ground_of f goals) (without_corners f goals) (λ x g. g) (move-stays f) refl q

-- so no opening of a job, a trial or a run refuses such a table as unsound
pub never_refused_as_unsound : (j : Job) (bytes : List ℕ) (start : ℕ) (table : List ℕ) (v : Verdict) → IsOpening j bytes start table v
    → Sound (job_of (without_corners (floor_of j bytes) (goals j)) j.depth j.p j.q j.quota) table → (r : Refusal) → v ≡ Err r → r.number ≢ 7
never_refused_as_unsound j bytes start table v o s r e seven =
    let (x, place, ((reach, above), first)) = refused_as_unsound_only_when_above j bytes start table v o r e seven in
    let now = learned_tables_stay_sound (floor_of j bytes) (goals j) j.depth j.p j.q j.quota table s in
    omega (arith, now.low x reach, above)
