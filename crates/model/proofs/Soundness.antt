-- 6 and 7 in the words of walks: 6 just where no walk leads from the start to a goal, 7 just where some cell that can reach a goal is
-- above its true figure, and it names the lowest. Assumes nothing.
use Prim.Native.Nat.{ℕ, ◌*◌, ◌<◌}
use mathlib.Core.Path.{◌≡◌, refl, sym, ap, ◌∙◌, subst}
use mathlib.Core.Bool.{Bool, true, false, ◌&&◌}
use mathlib.Core.List.{List}
use native.Mathlib.Omega.{arith}
use borrow.Author.Tests.{ltb-true, lt-ltb}
use lib.Dec.{T, ltb}
use lib.ListN.{get_or}
use Rattle.learning.specs.Walk.{Reaches}
use Rattle.learning.specs.Ground.{Goal, net_of, reach_of, dist_of}
use Rattle.learning.proofs.Ground.{on_floor, reach_of_lem, reach-true}
use Rattle.answers.specs.declared.Job.{Job}
use Rattle.answers.specs.declared.Refusal.{Refusal}
use Rattle.answers.specs.declared.Place.TheVariants as P
use Rattle.answers.specs.Outcomes.{Verdict}
use Rattle.std.specs.Prelude.{Ok, Err}
use Rattle.model.specs.Basics.{then, refuse_at, unless, naming}
use Rattle.model.specs.Floor.{size}
use Rattle.model.specs.Checks.{floor_of, ground_in}
use Rattle.model.specs.Opening.{distances, reaches, true_figure, soundness}
use Rattle.model.proofs.Moves.{is_true, both, both_of}
use Rattle.model.proofs.Accepted.{never, fails, naming-done, naming_none, naming-found}

-- a cell can reach a goal; its figure is above the true one
abbrev pub CanReach : Job → List ℕ → ℕ → Type 0
CanReach j bytes x = Reaches (net_of (ground_in j bytes)) (Goal (ground_in j bytes)) x

abbrev pub Above : Job → (bytes table : List ℕ) → ℕ → Type 0
Above j bytes table x = CanReach j bytes x × (j.q * dist_of (ground_in j bytes) x < get_or table x 0)

-- the lowest cell that is above
abbrev pub Lowest : Job → (bytes table : List ℕ) → ℕ → Type 0
Lowest j bytes table x = Above j bytes table x × ((y : ℕ) → y < x → ¬ Above j bytes table y)

same_refusal : {r s : Refusal} → ◌≡◌ {A = Verdict} (Err r) (Err s) → r ≡ s
same_refusal e = cc

-- whether a cell can reach a goal, as the opening computes it
module _ (j : Job) (bytes : List ℕ) where
  pub reaches_of : (x : ℕ) → CanReach j bytes x → reaches j bytes (distances j bytes) x ≡ true
  unfolding reach_of
  reaches_of x r = is_true _ (reach_of_lem (ground_in j bytes) x r)

  pub reaches_means : (x : ℕ) → reaches j bytes (distances j bytes) x ≡ true → CanReach j bytes x
  unfolding reach_of
  reaches_means x e = reach-true (ground_in j bytes) x (subst T (sym e) tt)

  reaches_not : (x : ℕ) → ¬ CanReach j bytes x → reaches j bytes (distances j bytes) x ≡ false
  reaches_not x h = fails _ (λ e. h (reaches_means x e))

  module _ (start : ℕ) (table : List ℕ) where
    -- the fault that 7 names
    abbrev fault : ℕ → Bool
    fault x = reaches j bytes (distances j bytes) x && ltb (true_figure j bytes (distances j bytes) x) (get_or table x 0)

    fault-shown : (x : ℕ) → Above j bytes table x → fault x ≡ true
    unfolding dist_of
    fault-shown x (r, l) = both_of _ _ (reaches_of x r) (lt-ltb _ _ l)

    fault-told : (x : ℕ) → fault x ≡ true → Above j bytes table x
    unfolding dist_of
    fault-told x e = let p = both (reaches j bytes (distances j bytes) x) _ e in (reaches_means x p.0, ltb-true _ _ p.1)

    fault_not : (x : ℕ) → ¬ Above j bytes table x → fault x ≡ false
    fault_not x h = fails _ (λ e. h (fault-told x e))

    searched : Verdict
    searched = naming (size (floor_of j bytes)) fault 7

    shape : soundness j bytes start table ≡ then (unless (reaches j bytes (distances j bytes) start) 6) searched
    unfolding soundness searched
    shape = refl

    from_reached : CanReach j bytes start → soundness j bytes start table ≡ searched
    from_reached r = shape ∙ ap (λ b. then (unless b 6) searched) (reaches_of start r)

    -- 6: no walk from start to goal exists
    pub six_is : ¬ CanReach j bytes start → soundness j bytes start table ≡ refuse_at 6 P.Nowhere
    six_is h = shape ∙ ap (λ b. then (unless b 6) searched) (reaches_not start h)

    -- what a refusal past the start has found
    refused-named : {r : Refusal} → CanReach j bytes start → soundness j bytes start table ≡ Err r
        → (x : ℕ) × Lowest j bytes table x × (r ≡ record { number = 7; place = P.Cell x })
    unfolding searched
    refused-named reach e =
        let (x, n) = naming-found (size (floor_of j bytes)) 7 fault (sym (from_reached reach) ∙ e) in
        (x, (fault-told x n.faulty, λ y h a. never (fault-shown y a) (n.first y h)), same_refusal (sym e ∙ from_reached reach ∙ n.answer))

    -- and only then
    pub six_means : {r : Refusal} → soundness j bytes start table ≡ Err r → r.number ≡ 6 → ¬ CanReach j bytes start
    six_means e q reach = let (x, l, g) = refused-named reach e in omega (arith, ap (λ (y : Refusal). y.number) g)

    -- 7 names the lowest cell that is above its true figure
    pub seven_means : {r : Refusal} → soundness j bytes start table ≡ Err r → r.number ≡ 7
        → (x : ℕ) × (r.place ≡ P.Cell x) × Lowest j bytes table x
    seven_means {r} e q = by (reaches j bytes (distances j bytes) start) refl
      where
        by : (b : Bool) → reaches j bytes (distances j bytes) start ≡ b
            → (x : ℕ) × (r.place ≡ P.Cell x) × Lowest j bytes table x
        by true t = let (x, l, g) = refused-named (reaches_means start t) e in (x, ap (λ (y : Refusal). y.place) g, l)
        by false t =
            let g = same_refusal (sym e ∙ shape ∙ ap (λ b. then (unless b 6) searched) t) in
            absurd (omega (arith, ap (λ (y : Refusal). y.number) g))

    -- neither: every figure of a cell that can reach a goal is at most the true one
    pub sound : CanReach j bytes start → ((x : ℕ) → ¬ Above j bytes table x) → soundness j bytes start table ≡ Ok tt
    unfolding searched
    sound r low = from_reached r ∙ naming-done (size (floor_of j bytes)) fault 7 (λ x h. fault_not x (low x))

    pub sound_only : soundness j bytes start table ≡ Ok tt → CanReach j bytes start × ((x : ℕ) → ¬ Above j bytes table x)
    unfolding searched
    sound_only e = by (reaches j bytes (distances j bytes) start) refl
      where
        by : (b : Bool) → reaches j bytes (distances j bytes) start ≡ b → CanReach j bytes start × ((x : ℕ) → ¬ Above j bytes table x)
        by true t =
            let none = naming_none (size (floor_of j bytes)) fault 7 (sym (from_reached (reaches_means start t)) ∙ e) in
            (reaches_means start t, λ x a. never (fault-shown x a) (none x (on_floor (ground_in j bytes) x a.0)))
        by false t = let w = sym e ∙ shape ∙ ap (λ b. then (unless b 6) searched) t in let z : ◌≡◌ {A = ℕ} 0 1 = cc in absurd (omega arith)

    -- and 7 whenever there is a way and some cell is above
    pub seven_is : CanReach j bytes start → (x : ℕ) → Above j bytes table x → (y : ℕ) × (soundness j bytes start table ≡ refuse_at 7 (P.Cell y)) × Lowest j bytes table y
    seven_is reach x above = by (soundness j bytes start table) refl
      where
        by : (v : Verdict) → soundness j bytes start table ≡ v → (y : ℕ) × (soundness j bytes start table ≡ refuse_at 7 (P.Cell y)) × Lowest j bytes table y
        by (Ok _) e = absurd ((sound_only e).1 x above)
        by (Err r) e = let (y, l, g) = refused-named reach e in (y, e ∙ ap Err g, l)
