-- The keys in a window that is worked out give the model's new figure and target.
-- Assumes nothing.
use mathlib.Core.Path.{◌≡◌, ◌∙◌}
use mathlib.Core.List.{List}
use Prim.Native.Nat.{ℕ, zero, suc, ◌+◌, ◌/◌, ◌%◌, ◌≤◌}
use native.Mathlib.Omega.{arith}
use lib.ListN.{get_or, replicate, length-replicate, get_or-replicate}
use Rattle.learning.specs.Ahead.{Window, Ahead}
use Rattle.learning.specs.Trial.{figure}
use Rattle.learning.specs.Ground.{Ground, Goal, net_of, ring_of, last_of, leg_of}
use Rattle.learning.proofs.Sound.{ring_self}
use Rattle.learning.proofs.Unique.{ring_unique}
use Rattle.learning.proofs.Found.{found}
use Rattle.answers.specs.declared.Job.{Job}
use Rattle.model.specs.Checks.{deepest, ground_in}
use Rattle.model.specs.Lookahead.{seen}
use Rattle.model.proofs.Rings.{empty-full}
use Rattle.lookahead.specs.Contract.{Asked, Near, Figures, Aimed}
use Rattle.lookahead.specs.Contract as contract
use Rattle.lookahead.specs.Marks.{In}
use Rattle.lookahead.specs.Costs.{Listing}
use Rattle.lookahead.specs.Bests.{most_rings, ring_at, coarse_at, unset, Scores, Bests, Topped}
use Rattle.lookahead.proofs.Meaning.{start_on, not_goal, job-window, near-cell, near_few, near-cost, near_of, near-high, seen-window, seen-coarse}
use Rattle.lookahead.proofs.Weighing.{weighed, weighed_high}

-- no cell is entered
pub bests_none : {base : ℕ} {mark cost table : List ℕ} {p : ℕ} {list : List ℕ} → Bests base mark cost table p list 0 (replicate most_rings unset)
bests_none = record {
  size = length-replicate {A = ℕ} most_rings unset;
  low = λ i h. absurd (omega arith);
  met = λ k l h. absurd (omega (arith, get_or-replicate {A = ℕ} most_rings k unset 0 (omega arith)));
}

module _ {j : Job} {bytes : List ℕ} {s : ℕ} (Q : Asked j bytes s) {table : List ℕ} (T : Figures j bytes table)
    {base : ℕ} {mark cost list : List ℕ} {n last : ℕ} (W : contract.Window j bytes s base mark cost list n last)
  where
    abbrev G : Ground
    G = ground_in j bytes

    last_eq : last ≡ last_of G j.depth s
    unfolding last_of
    last_eq = W.last_is

    Y : Window (net_of G) (Goal G) j.depth s last (ring_at base mark) (coarse_at cost)
    Y = rw last_eq (seen-coarse Q W.view)

    near : (x : ℕ) → In base mark x → Near j bytes s x
    near = near_of Q W.view

    pub scores : Scores base mark cost table j.p
    scores = record {
      weight = T.weight;
      marks = W.view.spent.size;
      costs = W.view.size;
      inside = λ x i. (near_few Q x (near x i), omega (arith, near-cell Q x (near x i)));
      top = near-high Q W.view;
      small = λ x i. (omega (arith, W.view.costs x (near x i), near-cost Q x (near x i)), T.small x);
    }

    pub listing : Listing base mark list n
    listing = record {
      room = W.room;
      fits = W.fits;
      early = λ i h. omega (arith, W.view.marks (get_or list i 0) (W.cells i h));
      listed = λ x i. W.listed x (near x i);
    }

    -- each ring up to the last has a cell
    full : (k : ℕ) → k ≤ last → (x : ℕ) × (ring_at base mark x ≡ k)
    unfolding ring_of
    full zero h = (s, omega (arith, ring_self Y))
    full (suc k) h =
        let (x, l, e) = empty-full j bytes (seen j bytes s) last W.full (suc k) (omega arith) h in
        (x, ring_unique (job-window Q) (seen-window Q W.view) x (omega (arith, last_eq)) ∙ e)

    module _ {best : List ℕ} {top : ℕ} (B : Bests base mark cost table j.p list n best) (M : Topped best (last + 1) top) where
      abbrev target : ℕ
      target = get_or best last 0 % 4096

      deep : last ≤ deepest
      deep = omega arith

      A : Ahead j.p last (ring_at base mark) (coarse_at cost) (figure table) (top / 4096) target
      A = weighed last scores listing B deep full W.some top M

      on_last : ring_of G j.depth s target ≡ last_of G j.depth s
      on_last =
          let e = A.on_last in
          ring_unique (seen-window Q W.view) (job-window Q) target (omega (arith, last_eq)) ∙ e ∙ last_eq

      pub aimed : {leg : ℕ} → leg ≡ coarse_at cost (get_or best last 0 % 4096)
          → Aimed j bytes s table (record { figure = top / 4096; target = get_or best last 0 % 4096; leg = leg })
      unfolding ring_of last_of leg_of
      aimed e =
          let F = found G j.depth j.p s table Q.shallow (start_on Q) (not_goal Q) Y A in record {
            figure = F.figure_is;
            target = F.target_is;
            leg = e ∙ F.cost_is;
            on_last = on_last;
            high = weighed_high last scores listing B deep full W.some top M;
          }
