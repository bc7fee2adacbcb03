-- The checks one after another: where one is refused it stands, and where all are done the call is ready to be decided.
-- Assumes nothing.
use Prim.Native.Nat.{ℕ, ◌+◌, ◌≤◌}
use mathlib.Core.Path.{◌≡◌, sym, ap, ◌∙◌}
use mathlib.Core.List.{List}
use native.Mathlib.Decide.{dec_le}
use native.Mathlib.Omega.{arith}
use Rattle.std.proofs.Math.Nat.{le_trans}
use lib.ListN.{length, get_or, get_or-eq_default}
use Rattle.answers.specs.declared.Job.{Job}
use Rattle.answers.specs.declared.State.{State}
use Rattle.answers.specs.declared.Place.TheVariants as P
use Rattle.answers.specs.declared.Refusal.{Refusal}
use Rattle.answers.specs.Outcomes.{Verdict}
use Rattle.std.specs.Prelude.{Ok, Err}
use Rattle.std.specs.Result.{IsErrAnd}
use Rattle.std.proofs.lemmas.Result.{err_from_is_err_and}
use Rattle.model.specs.Basics.{then, refuse_at}
use Rattle.model.specs.Floor.{Floor, size}
use Rattle.model.specs.Checks.{ceiling, floor_of, goals, sizes, path_room, figures}
use Rattle.model.specs.Decision.{state_holds, judge, least_room}
use Rattle.model.proofs.Accepted.{not_refused, then_next, then_refused, then_done, sizes_judges, path_judges, settings_judges, figures-accepted}
use Rattle.model.proofs.Benches.{places_judges, goals_judges, benched}
use Rattle.model.proofs.Held.{Held, held_judges, moves_judges, sound-room}
use Rattle.decision.specs.Ready.{Places, Ready, Judged}
use Rattle.decision.specs.Inner.{Checked}

-- ---- the state's check

module _ {j : Job} {bytes : List ℕ} {s : State} {path : List ℕ} where
  pub checked_refused : {place : List ℕ} {v : Verdict} → size (floor_of j bytes) ≤ length path → v ≡ refuse_at 8 P.Nowhere → (Held j bytes s path → ⊥) → Checked j bytes s path place v
  checked_refused wide e not = record { verdict = e ∙ sym ((held_judges j bytes s path wide).refused not); places = λ d. not_refused d e }

  pub checked_done : {place : List ℕ} → size (floor_of j bytes) ≤ length path → Held j bytes s path → Places place path s.length → Checked j bytes s path place (Ok tt)
  checked_done wide h p = record { verdict = sym ((held_judges j bytes s path wide).done h); places = λ d. p }

-- ---- the whole judgement

module _ (j : Job) (bytes : List ℕ) (s : State) (table path : List ℕ) (room from : ℕ) where
  low : length table ≡ size (floor_of j bytes) → figures (floor_of j bytes) table ≡ Ok tt → (x : ℕ) → get_or table x 0 ≤ ceiling
  low l e x = by (dec_le (length table) x)
    where
      by : Dec (length table ≤ x) → get_or table x 0 ≤ ceiling
      by (yes h) = omega (arith, get_or-eq_default table 0 {n = x} h)
      by (no h) = figures-accepted (floor_of j bytes) table e x (omega arith)

  pub roomy : judge j bytes s table path room from ≡ Ok tt → from + least_room ≤ room
  unfolding judge
  roomy e =
      let (one, after-one) = then_done _ _ e in
      let (two, after-two) = then_done _ _ after-one in
      (moves_judges room from).gives (then_done _ _ after-two).0

  pub ready : judge j bytes s table path room from ≡ Ok tt → Ready j bytes s table path
  unfolding judge
  ready e =
      let (one, after-one) = then_done _ _ e in
      let (two, after-two) = then_done _ _ after-one in
      let (rest, after-rest) = then_done _ _ after-two in
      let (three, after-three) = then_done _ _ after-rest in
      let (four, after-four) = then_done _ _ after-three in
      let (order, after-order) = then_done _ _ after-four in
      let (five, eight) = then_done _ _ after-order in
      let z = (sizes_judges (floor_of j bytes) (length table)).gives one in
      let wide : size (floor_of j bytes) ≤ length path = (path_judges (floor_of j bytes) (length path)).gives two in
      let p = (places_judges (floor_of j bytes) s.current (goals j)).gives four in
      let h = (held_judges j bytes s path wide).gives eight in
      record {
        sized = z.0;
        settings = (settings_judges j).gives three;
        figures = z.1;
        low = low z.1 five;
        wide = wide;
        here = p.0;
        benches = benched (floor_of j bytes) j.goals p.1 ((goals_judges j.goals).gives order);
        within = h.within;
        short = sound-room j bytes s.current path s.length (le_trans h.short wide) h.sound p.0;
        fair = h.sound.fair;
      }

-- a check that is done passes on to the next ones, and one that is refused stops them
pub then_on : {v b w : Verdict} → Ok tt ≡ v → b ≡ w → b ≡ then v w
then_on d e = e ∙ sym (then_next _ (sym d))

pub then_ends : {v : Verdict} (w : Verdict) {r : Refusal} → Err r ≡ v → Err r ≡ then v w
then_ends w e = sym (then_refused w (sym e))

-- 1 that is done tells how many cells there are, and then 2 that the path has a place for each
pub measured : (f : Floor) {figures : ℕ} → sizes f figures ≡ Ok tt → size f ≡ figures
measured f e = sym ((sizes_judges f _).gives e).1

pub roomy_path : {f g : Floor} {places : ℕ} → g ≡ f → Ok tt ≡ path_room f places → size g ≤ places
roomy_path {f} e d = rw e ((path_judges f _).gives (sym d))

module _ {j : Job} {bytes : List ℕ} {s : State} {table path : List ℕ} {room from : ℕ} {place : List ℕ} {v : Verdict} where
  -- the exit of a `?` returns the check's own refusal
  pub judged-refused : {r : Refusal} → IsErrAnd v (λ (q : Refusal). q ≡ r) → Err r ≡ judge j bytes s table path room from → Judged j bytes s table path room from place v
  judged-refused h e =
      let p = err_from_is_err_and v h in
      let told = p.1 ∙ ap Err p.2 in
      record { verdict = told ∙ e; places = λ d. not_refused d told }

  pub judged_checked : Checked j bytes s path place v → (v ≡ state_holds j bytes s path → v ≡ judge j bytes s table path room from) → Judged j bytes s table path room from place v
  judged_checked h e = record { verdict = e h.verdict; places = h.places }
