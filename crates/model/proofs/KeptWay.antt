-- The way kept: the path at the end of a trial begins at the start, each of its legs is a walk to the next cell, and so the kept cost is a walk's.
-- Every decision keeps the path linked by legs, and a leg's cost is the least cost of a walk in the window.
use Prim.Native.Nat.{ℕ, ◌≤◌}
use mathlib.Core.Path.{◌≡◌, subst}
use mathlib.Core.Bool.{true}
use mathlib.Core.List.{List, [], ◌∷◌, ◌++◌}
use native.Mathlib.Omega.{arith}
use Rattle.learning.specs.Walk.{Any, Leads}
use Rattle.learning.specs.Path.{All, also, Linked, loose, link, first}
use Rattle.learning.specs.Trial as learning
use Rattle.learning.specs.Trial.{Lawful, CanReach, LeadsOn}
use Rattle.learning.specs.Ground.{leg_of}
use Rattle.learning.proofs.Walks.{widen}
use Rattle.learning.proofs.Travel.{path_walk}
use Rattle.answers.specs.declared.Job.{Job}
use Rattle.std.specs.Prelude.{Ok}
use Rattle.model.specs.Basics.{member}
use Rattle.model.specs.Checks.{goals}
use Rattle.model.specs.Lookahead.{seen, w}
use Rattle.model.specs.Opening.{open_trial}
use Rattle.model.specs.Decision.{on_path}
use Rattle.model.specs.Ride.{Ride, ride, kept}
use Rattle.model.proofs.Openings.{ready}
use Rattle.model.proofs.Meaning.{net}
use Rattle.model.proofs.Rides.{ride_riding, keeps}
use Rattle.model.proofs.Driven.{trial_ends_at_a_bench}

-- the way kept by a ride that came to a bench, where it stands now
pub record KeptWay (j : Job) (bytes : List ℕ) (start : ℕ) (r : Ride) : Type 0 where
  -- it begins at the start: the path's first cell is the start, and where the path is empty the start is that bench
  pub begins : first (on_path r.state r.path) r.state.current ≡ start
  -- a bench: one of the job's goals
  pub ends : member r.state.current (goals j) ≡ true
  -- from each cell of the path a walk leads to the next, and from the last to that bench, at the leg's cost
  pub legs : Linked (λ x y. Leads (net j bytes) Any x y (w j bytes (seen j bytes x) y)) (on_path r.state r.path) r.state.current
  -- so the kept cost is that of a walk from the start to it
  pub walk : Leads (net j bytes) Any start r.state.current (kept j bytes r)

-- a leg leads to the next cell at the leg's cost
legs_lead : {J : learning.Job} → Lawful J → (xs : List ℕ) (c : ℕ) → All (CanReach J) (xs ++ c ∷ []) → Linked (LeadsOn J) xs c
    → Linked (λ x y. Leads J.net Any x y (J.leg x y)) xs c
legs_lead L [] c h loose = loose
legs_lead {J} L (x ∷ xs) c (also h r) (link (g, e) k) =
    let near : J.ring x (first xs c) ≤ J.last x = omega arith in
    let (n, walk) = ((L.windows x g h).cheapest (first xs c) near).met in
    link (n, widen (λ y l. tt) walk) (legs_lead L xs c r k)

pub trial_keeps_a_way : (j : Job) (bytes : List ℕ) (start : ℕ) (table path : List ℕ) → open_trial j bytes start table path ≡ Ok tt → KeptWay j bytes start (ride j bytes start table path)
unfolding kept leg_of
trial_keeps_a_way j bytes start table path e =
    let R = ready j bytes start table path e in
    let r = ride j bytes start table path in
    let way = on_path r.state r.path in
    let k = keeps j bytes start table path R (ride_riding j bytes start table path R) in
    let L = R.opened.held.lawful in
    record {
      begins = k.begins;
      ends = trial_ends_at_a_bench j bytes start table path e;
      legs = legs_lead L way r.state.current k.reach k.linked;
      walk = subst (λ a. Leads (net j bytes) Any a r.state.current (kept j bytes r)) k.begins (path_walk L way r.state.current k.reach k.linked);
    }
